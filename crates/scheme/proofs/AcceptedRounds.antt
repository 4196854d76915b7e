-- The rounds of a signer, as the verifier reads them from the pieces of a signature: the same c0(i), c1(i) and h(i).
-- Assumes nothing.
use mathlib.Core.Path.{◌≡◌, refl, ◌∙◌, sym}
use mathlib.Core.Bool.{Bool, true, false}
use mathlib.Core.List.{List, [], ◌++◌, append-nil}
use Prim.Native.Nat.{ℕ, ◌+◌, ◌<◌}
use lib.Dec.{eqb}
use lib.ListN.{length, get_or, length-append}
use lib.Seq.{take_at, drop_at}
use Rattle.outcome.specs.Answer.{first_refusal, pick}
use Rattle.outcome.specs.Lists.{flat}
use Rattle.outcome.proofs.Lists.{length_flat, flat_part}
use Rattle.packing.proofs.Below.{Below}
use Rattle.parameters.specs.declared.Params.{Params}
use Rattle.parameters.specs.Sound.{Sound}
use Rattle.linear.specs.Linear.{powers, syndrome, opened}
use Rattle.linear.proofs.Sizes.{length_transformation}
use Rattle.linear.proofs.Ranges.{below_transformation}
use Rattle.linear.proofs.Honest.{opened_transformation}
use Rattle.scheme.specs.Strings.{digest}
use Rattle.scheme.specs.Round.{mask_exponents, round_draws, reply_size}
use Rattle.scheme.specs.Sign.{part_size}
use Rattle.scheme.specs.Sign as sign
use Rattle.scheme.specs.Verify as verify
use Rattle.scheme.proofs.PartsStrings.{length_digest, below_mask, length_mask}
use Rattle.scheme.proofs.AcceptedRound.{reply0, reply_to, Replied, replied}

-- a choice made twice by one test
pick_append : (one : Bool) (a b c d : List ℕ) → pick one (a ++ c) (b ++ d) ≡ pick one a b ++ pick one c d
pick_append true a b c d = refl
pick_append false a b c d = refl

pick_long : (one : Bool) (a b : List ℕ) (n : ℕ) → length a ≡ n → length b ≡ n → length (pick one a b) ≡ n
pick_long true a b n e d = e
pick_long false a b n e d = d

pick_first : (one : Bool) (a b : List ℕ) → pick one (pick one a b) (pick one b a) ≡ a
pick_first true a b = refl
pick_first false a b = refl

pick_digest : (p : Params) (one : Bool) (a b : List ℕ) → digest p (pick one a b) ≡ pick one (digest p a) (digest p b)
pick_digest p true a b = refl
pick_digest p false a b = refl

-- Any seeds of the rounds, and any challenges: how c and h are made of the c0(i), c1(i) and h(i) does not matter here.
module _ (p : Params) (vs key : List ℕ) (seed : ℕ → List ℕ) (salt β b : List ℕ) where
  -- the first and the second challenge of round j
  abbrev pub βⱼ : ℕ → ℕ
  βⱼ j = get_or β j 0

  abbrev pub bⱼ : ℕ → ℕ
  bⱼ j = get_or b j 0

  -- the signer's commitments, transformation and response of round j, and its part
  abbrev pub c0ⱼ : ℕ → List ℕ
  c0ⱼ = sign.c0 p vs key seed salt

  abbrev pub c1ⱼ : ℕ → List ℕ
  c1ⱼ = sign.c1 p seed salt

  abbrev pub σⱼ : ℕ → List ℕ
  σⱼ = sign.σ p key seed salt

  abbrev pub yⱼ : ℕ → List ℕ
  yⱼ = sign.y p seed salt β

  abbrev pub partⱼ : ℕ → List ℕ
  partⱼ = sign.part p vs key seed salt β b

  abbrev pub rounds : List ℕ
  rounds = flat partⱼ p.t

  abbrev pub s : List ℕ
  s = syndrome p.k vs (powers key)

  -- what the verifier finds in round j: the signer's commitments and h(i), and a reply that passes
  pub record Agreed (j : ℕ) : Type 0 where
    pub c0 : verify.c0_at p vs s salt rounds β b j ≡ c0ⱼ j
    pub c1 : verify.c1_at p vs s salt rounds β b j ≡ c1ⱼ j
    pub hᵢ : verify.h_at p vs s salt rounds β b j ≡ sign.hᵢ p seed salt β j
    pub passes : first_refusal (verify.checks_at p vs s salt rounds β b j) ≡ 0

  module _
      (sound : Sound p)
      (long : length key ≡ p.n)
      (ranged : Below 7 key)
      (sized : (j : ℕ) → j < p.t → length (seed j) ≡ p.seed)
      (drawn : (j : ℕ) → j < p.t → first_refusal (round_draws p (seed j) salt (j + 1)) ≡ 0)
    where
      abbrev replyⱼ : ℕ → List ℕ
      replyⱼ j = reply_to p vs (σⱼ j) (seed j) salt (j + 1) (βⱼ j) (bⱼ j)

      abbrev broughtⱼ : ℕ → List ℕ
      broughtⱼ j = pick (eqb (bⱼ j) 1) (c0ⱼ j) (c1ⱼ j)

      -- the transformation opens the key exponents
      opens : (j : ℕ) → j < p.t → opened (σⱼ j) (mask_exponents p (seed j) salt (j + 1)) ≡ key
      unfolding sign.σ sign.e'
      opens j l =
          opened_transformation ranged (below_mask p (seed j) salt (j + 1))
          (length_mask p (seed j) salt (j + 1) (drawn j l) ∙ sym long)

      long-σ : (j : ℕ) → j < p.t → length (σⱼ j) ≡ p.n
      unfolding sign.σ sign.e'
      long-σ j l = length_transformation key _ p.n long (length_mask p (seed j) salt (j + 1) (drawn j l))

      ranged-σ : (j : ℕ) → Below 7 (σⱼ j)
      unfolding sign.σ
      ranged-σ j = below_transformation key _

      replied_at : (j : ℕ) → j < p.t → Replied p vs (σⱼ j) (seed j) salt (j + 1) (βⱼ j) s (bⱼ j)
      replied_at j l =
          replied p vs (σⱼ j) (seed j) salt (j + 1) (βⱼ j) key (opens j l) (long-σ j l) (ranged-σ j) (sized j l)
          (drawn j l) (bⱼ j)

      -- a part is reply and commitment
      split : (j : ℕ) → partⱼ j ≡ replyⱼ j ++ broughtⱼ j
      unfolding sign.part sign.y sign.e' sign.u'
      split j = pick_append (eqb (bⱼ j) 1) (seed j) (reply0 p vs (σⱼ j) (seed j) salt (j + 1) (βⱼ j)) (c0ⱼ j) (c1ⱼ j)

      long_reply : (j : ℕ) → j < p.t → length (replyⱼ j) ≡ reply_size p (bⱼ j)
      long_reply j l = (replied_at j l).long

      long_brought : (j : ℕ) → length (broughtⱼ j) ≡ p.digest
      unfolding sign.c0 sign.c1
      long_brought j =
          pick_long (eqb (bⱼ j) 1) (c0ⱼ j) (c1ⱼ j) p.digest (length_digest p sound _) (length_digest p sound _)

      long_part : (j : ℕ) → j < p.t → length (partⱼ j) ≡ part_size p (bⱼ j)
      long_part j l = rw (split j, length-append (replyⱼ j) (broughtⱼ j), long_reply j l, long_brought j)

      -- the verifier's reading of round j
      parts : (j : ℕ) → j < p.t → verify.part_at p vs s salt rounds β b j ≡ replyⱼ j ++ broughtⱼ j
      unfolding verify.part_at
      parts j l =
          rw (← append-nil rounds) (flat_part partⱼ (λ j. part_size p (bⱼ j)) p.t long_part [] j l) ∙ split j

      -- reply and commitment of such a part, whatever else
      module _ (j : ℕ) (l : j < p.t) where
        abbrev whole : List ℕ
        whole = replyⱼ j ++ broughtⱼ j

        replies : verify.reply_in p vs s salt (j + 1) (βⱼ j) (bⱼ j) whole ≡ replyⱼ j
        unfolding verify.reply_in
        replies = take_at (replyⱼ j) (broughtⱼ j) (reply_size p (bⱼ j)) (long_reply j l)

        brings : verify.brought_in p vs s salt (j + 1) (βⱼ j) (bⱼ j) whole ≡ broughtⱼ j
        unfolding verify.brought_in
        brings = drop_at (replyⱼ j) (broughtⱼ j) (reply_size p (bⱼ j)) (long_reply j l)

        gives : verify.given_in p vs s salt (j + 1) (βⱼ j) (bⱼ j) whole ≡ pick (eqb (bⱼ j) 1) (c1ⱼ j) (c0ⱼ j)
        unfolding verify.given_in sign.c0 sign.c1 sign.s̃ sign.e' sign.u'
        gives = rw (replies, (replied_at j l).string) (pick_digest p (eqb (bⱼ j) 1) _ _)

        c0_agrees : verify.c0_at p vs s salt rounds β b j ≡ c0ⱼ j
        unfolding verify.c0_at verify.c0_in
        c0_agrees = rw (parts j l, brings, gives) (pick_first (eqb (bⱼ j) 1) (c0ⱼ j) (c1ⱼ j))

        c1_agrees : verify.c1_at p vs s salt rounds β b j ≡ c1ⱼ j
        unfolding verify.c1_at verify.c1_in
        c1_agrees = rw (parts j l, brings, gives) (pick_first (eqb (bⱼ j) 1) (c1ⱼ j) (c0ⱼ j))

        hᵢ-agrees : verify.h_at p vs s salt rounds β b j ≡ sign.hᵢ p seed salt β j
        unfolding verify.h_at verify.h_in sign.hᵢ sign.y sign.e' sign.u'
        hᵢ-agrees = rw (parts j l, replies, (replied_at j l).response)

        passes : first_refusal (verify.checks_at p vs s salt rounds β b j) ≡ 0
        unfolding verify.checks_at verify.checks_in
        passes = rw (parts j l, replies) (replied_at j l).passes

      pub agreed : (j : ℕ) → j < p.t → Agreed j
      agreed j l = record { c0 = c0_agrees j l; c1 = c1_agrees j l; hᵢ = hᵢ-agrees j l; passes = passes j l }

      -- the rounds have the size of their parts
      pub length_rounds : length rounds ≡ verify.offset p b p.t
      length_rounds = length_flat partⱼ (λ j. part_size p (bⱼ j)) p.t long_part
