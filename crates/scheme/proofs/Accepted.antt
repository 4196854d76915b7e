-- Duty 3, first half: what signing answers 0 for, the verifier accepts.
-- Assumes nothing.
use mathlib.Core.Path.{◌≡◌, ◌∙◌}
use mathlib.Core.List.{List, [], ◌∷◌, ◌++◌, append_assoc}
use Prim.Native.Nat.{ℕ, ◌+◌, ◌*◌, ◌<◌, ◌≤◌}
use native.Mathlib.Nat.{mul-le-mul_right}
use native.Mathlib.Omega.{arith}
use borrow.Author.Tests.{eq-eqb, le-leb}
use lib.ListN.{length, drop, length-append, length-drop}
use lib.Seq.{take_at, drop_at, length-take-le}
use Rattle.outcome.specs.Answer.{Check, ◌unless◌, short_draw, first_refusal}
use Rattle.outcome.specs.Lists.{flat}
use Rattle.outcome.proofs.Checks.{passed_front}
use Rattle.parameters.specs.declared.Params.{Params}
use Rattle.parameters.specs.Sound.{Sound}
use Rattle.scheme.specs.Strings.{round_seeds_string, joined}
use Rattle.scheme.specs.Key.{
  public_seed,
  matrix,
  matrix_drawn,
  key_exponents,
  key_syndrome,
  public_key,
  key_size,
  seed_of,
  syndrome_of,
  key_fields,
}
use Rattle.scheme.specs.Sign.{message_max, signature_size, round_seeds, round_seed, signature, signature_from, sign_checks}
use Rattle.scheme.specs.Sign as sign
use Rattle.scheme.specs.Verify.{piece_checks, salt_of, c_of, h_of, rounds_of, verify_sizes, verify_checks, verify}
use Rattle.scheme.specs.Duty.{Accepted}
use Rattle.scheme.proofs.Keyed.{Signed, signed}
use Rattle.scheme.proofs.PartsStrings.{length_bytes, length_digest}
use Rattle.scheme.proofs.AcceptedPieces.{pieces_pass, length_parts}
use Rattle.scheme.proofs.AcceptedKey.{Read, read}

-- the seed of a round has its size
round_sized : (p : Params) → Sound p → (master salt : List ℕ) (j : ℕ) → j < p.t →
    length (round_seed p master salt j) ≡ p.seed
unfolding round_seed round_seeds
round_sized p sound master salt j l =
    length-take-le p.seed (drop (p.seed * j) (round_seeds p master salt))
    (rw (length-drop (p.seed * j) (round_seeds p master salt), length_bytes p sound (round_seeds_string master salt) (p.t * p.seed))
    (omega (arith, mul-le-mul_right p.seed l)))

-- the pieces of a signature, as the verifier cuts them
record Cut (p : Params) (salt c h rounds sig : List ℕ) : Type 0 where
  salt_is : salt_of p sig ≡ salt
  c_is : c_of p sig ≡ c
  h_is : h_of p sig ≡ h
  rounds_are : rounds_of p sig ≡ rounds
  long : length sig ≡ 3 * p.digest + length rounds

cut : (p : Params) (salt c h rounds : List ℕ) → length salt ≡ p.digest → length c ≡ p.digest → length h ≡ p.digest →
    Cut p salt c h rounds (salt ++ c ++ h ++ rounds)
unfolding salt_of c_of h_of rounds_of
cut p salt c h rounds salt_sized c_sized h_sized =
    let d : ℕ = p.digest in
    let tail : List ℕ = h ++ rounds in
    let past_two : salt ++ c ++ h ++ rounds ≡ salt ++ c ++ tail = append_assoc (salt ++ c) h rounds in
    let past_one : salt ++ c ++ h ++ rounds ≡ salt ++ (c ++ tail) = past_two ∙ append_assoc salt c tail in
    let two : length (salt ++ c) ≡ 2 * d = omega (arith, length-append salt c) in
    let three : length (salt ++ c ++ h) ≡ 3 * d = omega (arith, length-append (salt ++ c) h) in
    record {
      salt_is = rw past_one (take_at salt (c ++ tail) d salt_sized);
      c_is = rw (past_one, drop_at salt (c ++ tail) d salt_sized) (take_at c tail d c_sized);
      h_is = rw (past_two, drop_at (salt ++ c) tail (2 * d) two) (take_at h rounds d h_sized);
      rounds_are = drop_at (salt ++ c ++ h) rounds (3 * d) three;
      long = omega (arith, length-append (salt ++ c ++ h) rounds);
    }

-- tests that hold one after another make the verifier answer 0
module _ (p : Params) (key msg sig : List ℕ) where
  abbrev matrix_draw : List Check
  matrix_draw = short_draw unless matrix_drawn p (seed_of p key) ∷ []

  abbrev pieces : List Check
  pieces =
      piece_checks p (matrix p (seed_of p key)) (syndrome_of p key) (salt_of p sig) (c_of p sig) (h_of p sig) (rounds_of p sig) msg

  verified : length key ≡ key_size p → length msg ≤ message_max → length sig ≡ signature_size p →
      first_refusal (key_fields p key) ≡ 0 → first_refusal matrix_draw ≡ 0 → first_refusal pieces ≡ 0 → verify p key msg sig ≡ 0
  unfolding verify verify_checks verify_sizes
  verified key_sized msg_sized sig_sized fields drawn pass =
      rw (
        eq-eqb (length key) (key_size p) key_sized,
        le-leb (length msg) message_max msg_sized,
        eq-eqb (length sig) (signature_size p) sig_sized,
      )
      (passed_front (key_fields p key) (matrix_draw ++ pieces) fields ∙ (passed_front matrix_draw pieces drawn ∙ pass))

-- what signing answered 0 for, verified
module _ (p : Params) (sound : Sound p) (private master salt msg : List ℕ) (ok : Signed p private master salt msg) where
  abbrev vs : List ℕ
  vs = matrix p (public_seed p private)

  abbrev key : List ℕ
  key = key_exponents p private

  abbrev seed : ℕ → List ℕ
  seed = round_seed p master salt

  abbrev root : List ℕ
  root = sign.c0_of_all p vs key seed salt

  abbrev c : List ℕ
  c = sign.c p seed salt root

  abbrev h : List ℕ
  h = sign.h p seed salt root msg

  abbrev rounds : List ℕ
  rounds = flat (sign.part p vs key seed salt (sign.β p seed salt root msg) (sign.b p seed salt root msg)) p.t

  public : Read p private
  public = read p sound private ok.key_drawn

  seeded : (j : ℕ) → j < p.t → length (seed j) ≡ p.seed
  seeded = round_sized p sound master salt

  cuts : Cut p salt c h rounds (salt ++ c ++ h ++ rounds)
  unfolding sign.c sign.h sign.h_of_all joined
  cuts = cut p salt c h rounds ok.salt_sized (length_digest p sound _) (length_digest p sound _)

  sized : length (salt ++ c ++ h ++ rounds) ≡ signature_size p
  sized =
      cuts.long ∙
      rw (length_parts p sound vs key public.long public.ranged seed salt msg seeded ok.drawn) (omega arith)

  whole : verify p (public_key p private) msg (signature p private master salt msg) ≡ 0
  unfolding signature signature_from key_syndrome
  whole =
      verified p (public_key p private) msg (salt ++ c ++ h ++ rounds)
      public.sized
      ok.msg_sized
      sized
      public.fields
      public.drawn
      (rw (public.seed, public.syndrome, cuts.salt_is, cuts.c_is, cuts.h_is, cuts.rounds_are)
      (pieces_pass p sound vs key public.long public.ranged seed salt msg seeded ok.drawn))

pub accepted : (p : Params) → Sound p → Accepted p
accepted p sound private master salt msg lent e =
    whole p sound private master salt msg (signed p private master salt msg lent e)

-- the signature then has its size
pub length_signature : (p : Params) → Sound p → (private master salt msg : List ℕ) (lent : ℕ) →
    first_refusal (sign_checks p private master salt msg lent) ≡ 0 →
    length (signature p private master salt msg) ≡ signature_size p
unfolding signature signature_from
length_signature p sound private master salt msg lent e =
    sized p sound private master salt msg (signed p private master salt msg lent e)
