-- The entries' answers put together, at all sound sizes: where signing answers 0, so do making the key and verifying;
-- and where the examiner answers 0 four times, the replies open the key or a pair of strings excuses.
-- Assumes nothing.
use mathlib.Core.Path.{◌≡◌, ◌∙◌, sym}
use mathlib.Core.List.{List}
use Prim.Native.Nat.{ℕ}
use lib.ListN.{length, length-replicate}
use Rattle.outcome.specs.Answer.{first_refusal}
use Rattle.parameters.specs.declared.Params.{Params}
use Rattle.parameters.specs.Sound.{Sound}
use Rattle.scheme.specs.Key.{public_key}
use Rattle.scheme.specs.Sign.{sign_checks, signature}
use Rattle.scheme.specs.Entries.{Signs, Verifies, VerifiesRound}
use Rattle.scheme.proofs.Keyed.{keyed}
use Rattle.scheme.proofs.Accepted.{accepted}
use Rattle.scheme.proofs.Opens.{opens}
use Rattle.duty.specs.declared.Signed.{Signed}
use Rattle.duty.specs.declared.FourRounds.{FourRounds}
use Rattle.duty.specs.Carried.{MakesKeyAnew, SignsAndVerifies, VerifiesFourRounds}

-- where the tests of signing pass, the key was made
pub key_made : (p : Params) (private master salt msg : List ℕ) (lent r : ℕ) {public : List ℕ}
    → MakesKeyAnew p private r public → first_refusal (sign_checks p private master salt msg lent) ≡ 0
    → (r ≡ 0) × (public ≡ public_key p private)
key_made p private master salt msg lent r made passed =
    let zero : r ≡ 0 = made.answer ∙ rw length-replicate (keyed p private master salt msg lent passed) in
    (zero, rw zero at made.content)

pub signs_and_verifies : {p : Params} → Sound p
    → {private master salt msg old : List ℕ} {r : Signed} {public sig : List ℕ}
    → MakesKeyAnew p private r.key public → Signs p private master salt msg old r.sign sig
    → Verifies p public msg sig r.verify → SignsAndVerifies p private master salt msg old r sig
signs_and_verifies {p} sound {private} {master} {salt} {msg} {old} {r} {public} {sig} made signed verified =
    record {
      public = public;
      key_answer = made;
      sign_answer = signed;
      verify_answer = verified;
      accepted = λ zero.
          let passed : first_refusal (sign_checks p private master salt msg (length old)) ≡ 0 =
          sym signed.answer ∙ zero in
          let key = key_made p private master salt msg (length old) r.key made passed in
          let written : sig ≡ signature p private master salt msg = rw zero at signed.content in
          (key.0, verified ∙ rw (key.1, written) (accepted p sound private master salt msg (length old) passed));
    }

pub verifies_four_rounds : {p : Params} {key salt : List ℕ} {i : ℕ} {c0 c1 : List ℕ} {β β' : ℕ} {h h' r0 r1 r0' r1' : List ℕ}
    {r : FourRounds}
    → VerifiesRound p key salt i c0 c1 β h 0 r0 r.a → VerifiesRound p key salt i c0 c1 β h 1 r1 r.b
    → VerifiesRound p key salt i c0 c1 β' h' 0 r0' r.c → VerifiesRound p key salt i c0 c1 β' h' 1 r1' r.d
    → VerifiesFourRounds p key salt i c0 c1 β β' h h' r0 r1 r0' r1' r
verifies_four_rounds {p} a b c d =
    record {
      first_0 = a;
      first_1 = b;
      second_0 = c;
      second_1 = d;
      opens = λ differ za zb zc zd.
          opens p _ _ _ _ _ _ _ _ _ _ _ _ _ differ (sym a ∙ za) (sym b ∙ zb) (sym c ∙ zc) (sym d ∙ zd);
    }
