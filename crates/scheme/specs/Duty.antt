-- What signer, verifier and round examiner owe to one another. The proofs stand in proofs/.
-- Every list here is any list, of any length and of any numbers: sizes and ranges come out of the answers 0.
-- Assumes nothing.
use Rattle.std.specs.Prelude.{◌≡◌, ◌⊎◌, List, ℕ}
use Rattle.outcome.specs.Answer.{first_refusal}
use Rattle.parameters.specs.declared.Params.{Params}
use Rattle.linear.specs.Linear.{powers, syndrome, opened}
use Rattle.scheme.specs.Strings.{digest, response_string}
use Rattle.scheme.specs.Key.{public_key, key_size, make_key_checks, seed_of, syndrome_of, matrix}
use Rattle.scheme.specs.Round.{reply_exponents, mask_exponents, reply_string, reply_response}
use Rattle.scheme.specs.Sign.{signature, sign_checks}
use Rattle.scheme.specs.Verify.{verify}
use Rattle.scheme.specs.VerifyRound.{verify_round}

module _ (p : Params) where
  -- First half: whatever signing answers 0 for, the verifier answers 0 for, under the key that the rules give for
  -- the private seed, with the same message and the signature as written.
  abbrev pub Accepted : Type 0
  Accepted =
      (private master salt msg : List ℕ) (lent : ℕ) →
      first_refusal (sign_checks p private master salt msg lent) ≡ 0 →
      verify p (public_key p private) msg (signature p private master salt msg) ≡ 0

  -- Signing answers 0 only where making the key does.
  abbrev pub Keyed : Type 0
  Keyed =
      (private master salt msg : List ℕ) (lent : ℕ) →
      first_refusal (sign_checks p private master salt msg lent) ≡ 0 →
      first_refusal (make_key_checks p private (key_size p)) ≡ 0

  -- Two strings excuse: they differ, and their digests are equal.
  abbrev pub Excuses : List ℕ → List ℕ → Type 0
  Excuses a b = (a ≡ b → ⊥) × (digest p a ≡ digest p b)

  -- The transformation of a reply to 0 and the mask exponents of a reply to 1 open the key: the powers of their sum
  -- modulo 7 have exactly the key's syndrome.
  abbrev pub OpensKey : List ℕ → List ℕ → ℕ → List ℕ → List ℕ → Type 0
  OpensKey key salt i reply0 reply1 =
      syndrome p.k (matrix p (seed_of p key)) (powers (opened (reply_exponents p reply0) (mask_exponents p reply1 salt i))) ≡
      syndrome_of p key

  -- The strings that the round examiner hashes for a reply: behind the commitment, and behind h(i).
  abbrev pub committed : List ℕ → List ℕ → ℕ → ℕ → ℕ → List ℕ → List ℕ
  committed key salt i β b reply = reply_string p (matrix p (seed_of p key)) (syndrome_of p key) b β reply salt i

  abbrev pub responded : List ℕ → ℕ → ℕ → ℕ → List ℕ → List ℕ
  responded salt i β b reply = response_string (reply_response p b β reply salt i)

  -- Second half: one key, salt, round and commitment pair; two different first challenges, each with its h(i), which
  -- may be equal; four replies that the examiner passes, one to each second challenge under each first challenge.
  -- Then either reply to 0 and either reply to 1 open the key, in all four ways; or one of four pairs excuses: both
  -- strings of tag 0, both of tag 1, and under each first challenge both of tag 2. Strings that are drawn from
  -- excuse nothing.
  abbrev pub Opens : Type 0
  Opens =
      (key salt : List ℕ) (i : ℕ) (c0 c1 : List ℕ) (β β' : ℕ) (h h' : List ℕ) (r0 r1 r0' r1' : List ℕ) →
      (β ≡ β' → ⊥) →
      verify_round p key salt i c0 c1 β h 0 r0 ≡ 0 →
      verify_round p key salt i c0 c1 β h 1 r1 ≡ 0 →
      verify_round p key salt i c0 c1 β' h' 0 r0' ≡ 0 →
      verify_round p key salt i c0 c1 β' h' 1 r1' ≡ 0 →
      (OpensKey key salt i r0 r1 × OpensKey key salt i r0 r1' × OpensKey key salt i r0' r1 × OpensKey key salt i r0' r1') ⊎
      (Excuses (committed key salt i β 0 r0) (committed key salt i β' 0 r0') ⊎
      (Excuses (committed key salt i β 1 r1) (committed key salt i β' 1 r1') ⊎
      (Excuses (responded salt i β 0 r0) (responded salt i β 1 r1) ⊎
      Excuses (responded salt i β' 0 r0') (responded salt i β' 1 r1'))))
