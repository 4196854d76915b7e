-- "Bench cases (● proved)", in one table: what is run, on what, and what it must give. The proofs stand in proofs/Table.antt.
-- An outcome goes through the very definitions that the contracts of the entries cite: their lists of checks, and what they
-- make. So what the table says holds of the running entries (`Told`), and no function runs it a second time.
-- Assumes nothing.
use Rattle.std.specs.Prelude.{◌≡◌, Bool, ℕ, eqb, replicate}
use mathlib.Core.List.{List, [], ◌∷◌, ◌++◌, map, Mem}
use Prim.Native.String.{String}
use Rattle.outcome.specs.Answer.{Check, first_refusal, pick, Answers}
use Rattle.outcome.specs.Lists.{same}
use Rattle.parameters.specs.declared.Params.{Params}
use Rattle.parameters.specs.Categories.{category1}
use Rattle.packing.specs.Packing.{pack, unpack, pack_checks, unpack_checks}
use Rattle.sampling.specs.Sampling.{sample, sample_checks}
use Rattle.sampling.specs.Shuffle.{shuffle, shuffle_checks}
use Rattle.linear.specs.Linear.{powers, scaled, response, transformation, syndrome}
use Rattle.scheme.specs.Round.{reply_syndrome}
use Rattle.profile.specs.declared.Profile.{Profile}
use Rattle.outcome.specs.Result.{Result, number_in, values_in}
use Rattle.profile.specs.Rules.{classes, class_in}
use Rattle.profile.specs.Line.{read_line}
use Rattle.profile.specs.Bench.{bytes}

-- ---- what is run

pub data Run : Type 0 where
  -- fields of width w, to be below m, packed into so many lent bytes
  packing : (w m : ℕ) → List ℕ → ℕ → Run
  -- n fields of width w, to be below m, from packed bytes
  unpacking : (w m n : ℕ) → List ℕ → Run
  -- a draw of n fields of width w below m, each plus d, from a block of so many bytes
  sampling : (w m d n size : ℕ) → List ℕ → Run
  -- the second challenge at t positions, w of them ones, from a block of so many bytes
  shuffling : (t w size : ℕ) → List ℕ → Run
  -- a round at one place under H = (1), as the signer makes it
  signing : (key e u β : ℕ) → Run
  -- and as the verifier recomputes it from s, β and the reply
  verifying : (s β y σ : ℕ) → Run
  -- the class of nominal volts
  class_of : ℕ → Run
  -- a line
  reading : String → Run

-- ---- what it gives: the number answered, and after 0 what was made

abbrev pub answered : List Check → List ℕ → List ℕ
answered checks made = first_refusal checks ∷ pick (eqb (first_refusal checks) 0) made []

-- one place: n = 1 and k = 0, so that V is empty and H = (1)
abbrev pub one_place : Params
one_place =
    record {
      n = 1;
      k = 0;
      t = category1.t;
      w = category1.w;
      digest = category1.digest;
      seed = category1.seed;
      rate = category1.rate;
      matrix = category1.matrix;
      exponents = category1.exponents;
      mask = category1.mask;
      first = category1.first;
      second = category1.second;
    }

-- σ, s, y and s̃
abbrev pub signed : (key e u : List ℕ) (β : ℕ) → List ℕ
signed key e u β =
    let σ : List ℕ = transformation key e in
    σ ++ syndrome one_place.k [] (powers key) ++ response β u e ++ syndrome one_place.k [] (scaled σ u)

-- of a profile that was read, its class
abbrev pub class_read : Result Profile → List ℕ
class_read r = number_in r ∷ map (λ (p : Profile). p.class) (values_in r)

unfoldable pub runs : Run → List ℕ
runs (packing w m xs lent) = answered (pack_checks w m xs lent) (pack w xs)
runs (unpacking w m n packed) = answered (unpack_checks w m n packed) (unpack w n packed)
runs (sampling w m d n size block) = answered (sample_checks w m d n size block n) (sample w m d n block)
runs (shuffling t w size block) = answered (shuffle_checks t size block t) (shuffle t w block)
runs (signing key e u β) = 0 ∷ signed (key ∷ []) (e ∷ []) (u ∷ []) β
runs (verifying s β y σ) = 0 ∷ reply_syndrome one_place [] (s ∷ []) β (pack 7 (y ∷ []) ++ pack 3 (σ ∷ []))
runs (class_of volts) = number_in (class_in classes volts) ∷ values_in (class_in classes volts)
runs (reading line) = class_read (read_line classes (bytes line))

-- ---- the table

-- what is run, the number that it must answer, and the values that it must give
pub record Case : Type 0 where
  pub run : Run
  pub number : ℕ
  pub values : List ℕ

infix 90 ◌gives◌
abbrev pub ◌gives◌ : Run → List ℕ → Case
run gives values = record { run = run; number = 0; values = values }

infix 90 ◌refuses◌
abbrev pub ◌refuses◌ : Run → ℕ → Case
run refuses number = record { run = run; number = number; values = [] }

abbrev pub outcome : Case → List ℕ
outcome c = runs c.run

abbrev pub expected : Case → List ℕ
expected c = c.number ∷ c.values

abbrev pub table : List Case
table =
    -- values 1, 2, 3 pack to 01 C1 00 (hex)
    packing 7 127 (1 ∷ 2 ∷ 3 ∷ []) 3 gives (0x01 ∷ 0xC1 ∷ 0x00 ∷ [])
    -- exponents 6, 5, 1 pack to 6E 00
    ∷ packing 3 7 (6 ∷ 5 ∷ 1 ∷ []) 2 gives (0x6E ∷ 0x00 ∷ [])
    -- one value from 7F: 3
    ∷ unpacking 7 127 1 (0x7F ∷ []) refuses 3
    -- from 80: 3
    ∷ unpacking 7 127 1 (0x80 ∷ []) refuses 3
    -- two 7-bit values drawn from 7F 01 02: 2, 8
    ∷ sampling 7 127 0 2 3 (0x7F ∷ 0x01 ∷ 0x02 ∷ []) gives (2 ∷ 8 ∷ [])
    -- a mask block all FF: 2
    ∷ sampling 7 127 0 category1.n category1.mask (replicate 140 0xFF) refuses 2
    -- β field 125 gives 126
    ∷ sampling 7 126 1 1 1 (125 ∷ []) gives (126 ∷ [])
    -- field 126 is dropped: alone it leaves the draw short, and before field 125 (together FE 3E) it is passed over
    ∷ sampling 7 126 1 1 1 (126 ∷ []) refuses 2
    ∷ sampling 7 126 1 1 2 (0xFE ∷ 0x3E ∷ []) gives (126 ∷ [])
    -- three positions, one 1, r = 5, 2: 0 1 0
    ∷ shuffling 3 1 4 (5 ∷ 0 ∷ 2 ∷ 0 ∷ []) gives (0 ∷ 1 ∷ 0 ∷ [])
    -- there r = 65535 is dropped at j = 2: r = 65535, 5, 2 gives the same, and r = 65535, 5 is short
    ∷ shuffling 3 1 6 (0xFF ∷ 0xFF ∷ 5 ∷ 0 ∷ 2 ∷ 0 ∷ []) gives (0 ∷ 1 ∷ 0 ∷ [])
    ∷ shuffling 3 1 4 (0xFF ∷ 0xFF ∷ 5 ∷ 0 ∷ []) refuses 2
    -- one place, H = (1): key exponent 2, e' 5, u' 100, β 3 give σ 4, s 4, y 69, s̃ 76
    ∷ signing 2 5 100 3 gives (4 ∷ 4 ∷ 69 ∷ 76 ∷ [])
    -- and from y 69 and σ 4 the verifier finds the same s̃
    ∷ verifying 4 3 69 4 gives (76 ∷ [])
    -- 139 A, 140 B, 259 B, 260 C: by the volts, and in a line
    ∷ class_of 139 gives (65 ∷ [])
    ∷ class_of 140 gives (66 ∷ [])
    ∷ class_of 259 gives (66 ∷ [])
    ∷ class_of 260 gives (67 ∷ [])
    ∷ reading "GP1,XA,A,12,139,50,1150,100,800,1500,1500,100,-2500,100\n" gives (65 ∷ [])
    ∷ reading "GP1,XA,B,12,140,50,1150,100,800,1500,1500,100,-2500,100\n" gives (66 ∷ [])
    ∷ reading "GP1,XA,B,12,259,50,1150,100,800,1500,1500,100,-2500,100\n" gives (66 ∷ [])
    ∷ reading "GP1,XA,C,12,260,50,1150,100,800,1500,1500,100,-2500,100\n" gives (67 ∷ [])
    -- 99 and 1001 volts: 5; likewise
    ∷ class_of 99 refuses 5
    ∷ class_of 1001 refuses 5
    ∷ reading "GP1,XA,A,12,99,50,1150,100,800,1500,1500,100,-2500,100\n" refuses 5
    ∷ reading "GP1,XA,D,12,1001,50,1150,100,800,1500,1500,100,-2500,100\n" refuses 5
    ∷ []

-- ---- the theorem over the table

infix 40 ◌∈◌
abbrev pub ◌∈◌ : Case → List Case → Type 0
c ∈ cases = Mem c cases

-- the test that is computed
abbrev pub holds : Case → Bool
holds c = same (outcome c) (expected c)

-- each case of the table gives what it must
abbrev pub EveryCase : Type 0
EveryCase = (c : Case) → c ∈ table → outcome c ≡ expected c

-- what an entry answers that keeps its contract, and after 0 leaves in what was lent, is the outcome by its checks
abbrev pub Told : Type 0
Told =
    (checks : List Check) (made old : List ℕ) (number : ℕ) (lent : List ℕ) → Answers checks made old number lent
    → number ∷ pick (eqb number 0) lent [] ≡ answered checks made
