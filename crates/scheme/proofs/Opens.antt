-- Duty 3, second half: two first challenges and four replies that the round examiner passes open the key, in all four
-- ways, or one of the four named pairs of strings excuses.
-- Equal strings hold equal vectors, so where no pair excuses there is one transformation σ, one mask (u', e') and one
-- syndrome s̃ behind both first challenges; the algebra does the rest.
-- Assumes nothing.
use mathlib.Core.Path.{◌≡◌, ◌∙◌, sym}
use mathlib.Core.Logic.{◌⊎◌, inl, inr}
use mathlib.Core.List.{List, List-discrete}
use Prim.Native.Nat.{ℕ, ◌-◌}
use native.Mathlib.Decide.{ℕ_discrete}
use native.Mathlib.Omega.{arith}
use lib.ListN.{length}
use Rattle.parameters.specs.declared.Params.{Params}
use Rattle.linear.specs.Linear.{syndrome, scaled, response, less_times}
use Rattle.linear.proofs.Sizes.{length_scaled, length_response, length_less_times, length_syndrome}
use Rattle.linear.proofs.Ranges.{below_response, below_less_times}
use Rattle.linear.proofs.Opening.{opening}
use Rattle.scheme.specs.Strings.{digest}
use Rattle.scheme.specs.Key.{seed_of, syndrome_of, matrix}
use Rattle.scheme.specs.Round.{
  mask_exponents,
  mask_values,
  reply_values,
  reply_exponents,
  reply_response,
  reply_syndrome,
  reply_string,
}
use Rattle.scheme.specs.Duty.{Excuses, OpensKey, Opens, committed, responded}
use Rattle.scheme.proofs.OpensStrings.{Vector, commitment0_tells, commitment1_tells, response_tells}
use Rattle.scheme.proofs.OpensAnswers.{Replied0, Replied1, replied0, replied1}

-- ---- two strings behind one digest are equal, or excuse

excused : (p : Params) (c a b : List ℕ) → c ≡ digest p a → c ≡ digest p b → (a ≡ b) ⊎ Excuses p a b
excused p c a b e f = go (List-discrete ℕ_discrete a b)
  where
    go : Dec (a ≡ b) → (a ≡ b) ⊎ Excuses p a b
    go (yes same) = inl same
    go (no differ) = inr (differ, sym e ∙ f)

-- of four facts that each hold or are excused, all hold or one is excused
all_or_one : {A B C D A' B' C' D' X : Type 0} → A ⊎ A' → B ⊎ B' → C ⊎ C' → D ⊎ D' → (A → B → C → D → X)
    → X ⊎ (A' ⊎ (B' ⊎ (C' ⊎ D')))
all_or_one (inl a) (inl b) (inl c) (inl d) f = inl (f a b c d)
all_or_one (inl a) (inl b) (inl c) (inr d) f = inr (inr (inr (inr d)))
all_or_one (inl a) (inl b) (inr c) d f = inr (inr (inr (inl c)))
all_or_one (inl a) (inr b) c d f = inr (inr (inl b))
all_or_one (inr a) b c d f = inr (inl a)

-- ---- the vectors that a string of tag 0 and one of tag 2 hold

-- s̃ under a key: (2^σ times x) H transposed − β s
abbrev s̃ : Params → List ℕ → ℕ → List ℕ → List ℕ → List ℕ
s̃ p key β σ x = less_times β (syndrome p.k (matrix p (seed_of p key)) (scaled σ x)) (syndrome_of p key)

s̃-vector : (p : Params) (key : List ℕ) (β : ℕ) {σ y : List ℕ} → Vector 127 (p.n - p.k) (syndrome_of p key)
    → Vector 7 p.n σ → Vector 127 p.n y → Vector 127 (p.n - p.k) (s̃ p key β σ y)
s̃-vector p key β {σ} {y} s vσ vy =
    let x : List ℕ = syndrome p.k (matrix p (seed_of p key)) (scaled σ y) in
    let long : length x ≡ p.n - p.k =
    omega (
      arith,
      length_syndrome p.k (matrix p (seed_of p key)) (scaled σ y),
      length_scaled σ y p.n vσ.long vy.long,
    ) in
    record {
      long = length_less_times β x (syndrome_of p key) (p.n - p.k) long s.long;
      below = below_less_times β x (syndrome_of p key);
    }

response_vector : (β n : ℕ) {u e : List ℕ} → Vector 127 n u → Vector 7 n e → Vector 127 n (response β u e)
response_vector β n {u} {e} vu ve =
    record { long = length_response β u e n vu.long ve.long; below = below_response β u e }

-- ---- no pair excuses: the strings of each pair are equal

module _
    (p : Params)
    (key salt : List ℕ)
    (i : ℕ)
    (c0 c1 : List ℕ)
    (β β' : ℕ)
    (h h' r0 r1 r0' r1' : List ℕ)
    (differ : β ≡ β' → ⊥)
    (a : Replied0 p key salt i c0 c1 β h r0)
    (b : Replied1 p key salt i c0 c1 β h r1)
    (a' : Replied0 p key salt i c0 c1 β' h' r0')
    (b' : Replied1 p key salt i c0 c1 β' h' r1')
    (tag0 : committed p key salt i β 0 r0 ≡ committed p key salt i β' 0 r0')
    (tag1 : committed p key salt i β 1 r1 ≡ committed p key salt i β' 1 r1')
    (tag2 : responded p salt i β 0 r0 ≡ responded p salt i β 1 r1)
    (tag2' : responded p salt i β' 0 r0' ≡ responded p salt i β' 1 r1')
  where
    -- y and σ of the replies to 0, u' and e' of those to 1
    abbrev y : List ℕ
    y = reply_values p r0

    abbrev y' : List ℕ
    y' = reply_values p r0'

    abbrev σ : List ℕ
    σ = reply_exponents p r0

    abbrev σ' : List ℕ
    σ' = reply_exponents p r0'

    abbrev u : List ℕ
    u = mask_values p r1 salt i

    abbrev u' : List ℕ
    u' = mask_values p r1' salt i

    abbrev e : List ℕ
    e = mask_exponents p r1 salt i

    abbrev e' : List ℕ
    e' = mask_exponents p r1' salt i

    same_transformation : (s̃ p key β σ y ≡ s̃ p key β' σ' y') × (σ ≡ σ')
    unfolding reply_string reply_syndrome
    same_transformation =
        commitment0_tells (p.n - p.k) p.n salt i _ _ σ σ'
        (s̃-vector p key β a.s a.σ a.y)
        (s̃-vector p key β' a'.s a'.σ a'.y)
        a.σ
        a'.σ
        tag0

    same_mask : (u ≡ u') × (e ≡ e')
    unfolding reply_string
    same_mask = commitment1_tells p.n p.n salt i u u' e e' b.u b'.u b.e b'.e tag1

    responses : (y ≡ response β u e) × (y' ≡ response β' u' e')
    unfolding reply_response
    responses = (
      response_tells p.n a.y (response_vector β p.n b.u b.e) tag2,
      response_tells p.n a'.y (response_vector β' p.n b'.u b'.e) tag2',
    )

    -- so one mask answers both first challenges with one s̃
    one_s̃ : s̃ p key β σ (response β u e) ≡ s̃ p key β' σ (response β' u e)
    one_s̃ =
        let y'≡ : y' ≡ response β' u e = rw (same_mask.0, same_mask.1) responses.1 in
        rw (← responses.0, ← y'≡, same_transformation.1) (rw same_transformation.1 at same_transformation).0

    opens_first : OpensKey p key salt i r0 r1
    opens_first =
        opening β β' a.small a'.small differ p.n p.k (matrix p (seed_of p key)) σ u e (syndrome_of p key)
        a.σ.long b.u.long b.e.long a.s.long a.s.below
        one_s̃

    opens_all :
        OpensKey p key salt i r0 r1 ×
        OpensKey p key salt i r0 r1' ×
        OpensKey p key salt i r0' r1 ×
        OpensKey p key salt i r0' r1'
    opens_all = (
      opens_first,
      rw (← same_mask.1) opens_first,
      rw (← same_transformation.1) opens_first,
      rw (← same_transformation.1, ← same_mask.1) opens_first,
    )

pub opens : (p : Params) → Opens p
opens p key salt i c0 c1 β β' h h' r0 r1 r0' r1' differ e0 e1 e0' e1' =
    let a : Replied0 p key salt i c0 c1 β h r0 = replied0 p key salt i c0 c1 β h r0 e0 in
    let b : Replied1 p key salt i c0 c1 β h r1 = replied1 p key salt i c0 c1 β h r1 e1 in
    let a' : Replied0 p key salt i c0 c1 β' h' r0' = replied0 p key salt i c0 c1 β' h' r0' e0' in
    let b' : Replied1 p key salt i c0 c1 β' h' r1' = replied1 p key salt i c0 c1 β' h' r1' e1' in
    all_or_one
    (excused p c0 _ _ a.commitment a'.commitment)
    (excused p c1 _ _ b.commitment b'.commitment)
    (excused p h _ _ a.hash b.hash)
    (excused p h' _ _ a'.hash b'.hash)
    (opens_all p key salt i c0 c1 β β' h h' r0 r1 r0' r1' differ a b a' b')
