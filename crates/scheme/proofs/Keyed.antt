-- Signing answers 0 only where making the key does.
-- Assumes nothing.
use mathlib.Core.Path.{◌≡◌, refl}
use mathlib.Core.List.{List, ◌++◌}
use Prim.Native.Nat.{ℕ, ◌≤◌}
use borrow.Author.Tests.{eq-eqb}
use lib.Dec.{eqb→eq, leb→le}
use lib.ListN.{length}
use Rattle.outcome.specs.Answer.{Check, first_refusal, Passed}
use Rattle.outcome.proofs.Checks.{passed, answered, both_passed}
use Rattle.parameters.specs.declared.Params.{Params}
use Rattle.scheme.specs.Key.{public_seed, matrix, key_exponents, key_size, key_draws, make_key_checks}
use Rattle.scheme.specs.Sign.{message_max, round_seed, sign_draws, sign_sizes, sign_checks}
use Rattle.scheme.specs.Duty.{Keyed}

-- the draws that signing takes behind those of the key
abbrev pub draws_of : (p : Params) → List ℕ → List ℕ → List ℕ → List ℕ → List Check
draws_of p private master salt msg =
    sign_draws p (matrix p (public_seed p private)) (key_exponents p private) (round_seed p master salt) salt msg

-- What the answer 0 of signing says, test by test.
pub record Signed (p : Params) (private master salt msg : List ℕ) : Type 0 where
  pub private_sized : length private ≡ p.digest
  pub salt_sized : length salt ≡ p.digest
  pub msg_sized : length msg ≤ message_max
  pub key_drawn : first_refusal (key_draws p private) ≡ 0
  pub drawn : first_refusal (draws_of p private master salt msg) ≡ 0

pub signed : (p : Params) (private master salt msg : List ℕ) (lent : ℕ) →
    first_refusal (sign_checks p private master salt msg lent) ≡ 0 → Signed p private master salt msg
unfolding sign_checks sign_sizes
signed p private master salt msg lent e =
    let all : Passed (sign_checks p private master salt msg lent) = passed (sign_checks p private master salt msg lent) e in
    let draws : List Check = draws_of p private master salt msg in
    let both : (first_refusal (key_draws p private) ≡ 0) × (first_refusal draws ≡ 0) =
    both_passed (key_draws p private) draws (answered (key_draws p private ++ draws) all.1.1.1.1.1) in
    record {
      private_sized = eqb→eq (length private) p.digest all.0;
      salt_sized = eqb→eq (length salt) p.digest all.1.1.0;
      msg_sized = leb→le (length msg) message_max all.1.1.1.0;
      key_drawn = both.0;
      drawn = both.1;
    }

pub keyed : (p : Params) → Keyed p
unfolding make_key_checks
keyed p private master salt msg lent e =
    let s : Signed p private master salt msg = signed p private master salt msg lent e in
    rw (eq-eqb (length private) p.digest s.private_sized, eq-eqb (key_size p) (key_size p) refl) s.key_drawn
