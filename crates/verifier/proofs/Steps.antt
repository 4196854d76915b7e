-- What the tests of sizes and of numbers say: all hold, or the one refusal of them all is given. Assumes nothing.
use mathlib.Core.Path.{◌≡◌, refl, sym, ap}
use mathlib.Core.Bool.{Bool, true, false}
use mathlib.Core.List.{List, [], ◌∷◌}
use Prim.Native.Nat.{ℕ, ◌≤◌}
use borrow.Author.Tests.{eq-eqb, le-leb}
use lib.Dec.{T, eqb, eqb→eq, leb, leb→le}
use lib.ListN.{length}
use Rattle.outcome.specs.declared.refusal.Refusal.{Refusal}
use Rattle.outcome.specs.Answer.{number_of, Check, ◌unless◌, bad_size, bad_field, Passed, first_refusal}
use Rattle.outcome.proofs.Checks.{answered}
use Rattle.parameters.specs.declared.Params.{Params}
use Rattle.scheme.specs.Key.{key_size}
use Rattle.scheme.specs.Sign.{signature_size, message_max}
use Rattle.scheme.specs.Verify.{verify_sizes}
use Rattle.scheme.specs.VerifyRound.{reply_sized, verify_round_sizes, verify_round_numbers}

-- every test has this refusal
abbrev Alike : Refusal → List Check → Type 0
Alike r [] = Unit {0}
Alike r (s unless ok ∷ cs) = (s ≡ r) × Alike r cs

none : (r : Refusal) (cs : List Check) → Alike r cs → (Passed cs → ⊥) → number_of r ≡ first_refusal cs
none r [] a n = absurd (n tt)
none r (s unless true ∷ cs) a n = none r cs a.1 (λ h. n (tt, h))
none r (s unless false ∷ cs) a n = ap number_of (sym a.0)

-- tests with one refusal say a fact
pub record Says (r : Refusal) (cs : List Check) (P : Type 0) : Type 0 where
  pub alike : Alike r cs
  pub fact : Passed cs → P
  pub tests : P → Passed cs

module _ {r : Refusal} {cs : List Check} {P : Type 0} (says : Says r cs P) where
  pub passes : P → 0 ≡ first_refusal cs
  passes h = sym (answered cs (says.tests h))

  pub refuses : (P → ⊥) → number_of r ≡ first_refusal cs
  refuses n = none r cs says.alike (λ h. n (says.fact h))

equal : (a b : ℕ) → a ≡ b → T (eqb a b)
equal a b e = rw (eq-eqb a b e) tt

within : (a b : ℕ) → a ≤ b → T (leb a b)
within a b l = rw (le-leb a b l) tt

holds : (b : Bool) → T b → b ≡ true
holds true h = refl
holds false h = absurd h

module _ (p : Params) where
  -- the verifier's sizes
  module _ (key msg sig : ℕ) where
    pub record Sized : Type 0 where
      pub key_long : key ≡ key_size p
      pub msg_short : msg ≤ message_max
      pub sig_long : sig ≡ signature_size p

    pub sized : Says bad_size (verify_sizes p key msg sig) Sized
    unfolding verify_sizes
    sized =
        record {
          alike = (refl, (refl, (refl, tt)));
          fact = λ h.
              record { key_long = eqb→eq key _ h.0; msg_short = leb→le msg _ h.1.0; sig_long = eqb→eq sig _ h.1.1.0 };
          tests = λ s. (equal key _ s.key_long, (within msg _ s.msg_short, (equal sig _ s.sig_long, tt)));
        }

  -- the round examiner's, ..
  module _ (key salt c0 c1 h : List ℕ) (b : ℕ) (reply : List ℕ) where
    pub record RoundSized : Type 0 where
      pub key_long : length key ≡ key_size p
      pub salt_long : length salt ≡ p.digest
      pub c0_long : length c0 ≡ p.digest
      pub c1_long : length c1 ≡ p.digest
      pub h_long : length h ≡ p.digest
      pub reply_fits : reply_sized p b reply ≡ true

    pub round_sized : Says bad_size (verify_round_sizes p key salt c0 c1 h b reply) RoundSized
    unfolding verify_round_sizes
    round_sized =
        record {
          alike = (refl, (refl, (refl, (refl, (refl, (refl, tt))))));
          fact = λ t.
              record {
                key_long = eqb→eq (length key) _ t.0;
                salt_long = eqb→eq (length salt) _ t.1.0;
                c0_long = eqb→eq (length c0) _ t.1.1.0;
                c1_long = eqb→eq (length c1) _ t.1.1.1.0;
                h_long = eqb→eq (length h) _ t.1.1.1.1.0;
                reply_fits = holds (reply_sized p b reply) t.1.1.1.1.1.0;
              };
          tests = λ s. (
            equal (length key) _ s.key_long,
            (
              equal (length salt) _ s.salt_long,
              (
                equal (length c0) _ s.c0_long,
                (equal (length c1) _ s.c1_long, (equal (length h) _ s.h_long, (rw s.reply_fits tt, tt))),
              ),
            ),
          );
        }

  -- .. and its numbers
  module _ (i β b : ℕ) where
    pub record Numbered : Type 0 where
      pub first : 1 ≤ i
      pub last : i ≤ p.t
      pub some : 1 ≤ β
      pub small : β ≤ 126
      pub binary : b ≤ 1

    pub numbered : Says bad_field (verify_round_numbers p i β b) Numbered
    unfolding verify_round_numbers
    numbered =
        record {
          alike = (refl, (refl, (refl, (refl, (refl, tt)))));
          fact = λ t.
              record {
                first = leb→le 1 i t.0;
                last = leb→le i _ t.1.0;
                some = leb→le 1 β t.1.1.0;
                small = leb→le β _ t.1.1.1.0;
                binary = leb→le b _ t.1.1.1.1.0;
              };
          tests = λ n. (
            within 1 i n.first,
            (within i _ n.last, (within 1 β n.some, (within β _ n.small, (within b _ n.binary, tt)))),
          );
        }
