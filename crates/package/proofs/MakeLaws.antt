-- What making a package answers, by the first check that fails, and the bytes that it leaves. Assumes nothing.
use mathlib.Core.Path.{◌≡◌, refl, ◌∙◌, sym, ap, subst}
use mathlib.Core.Bool.{true}
use mathlib.Core.List.{List, [], ◌∷◌, ◌++◌}
use Prim.Native.Nat.{ℕ, ◌+◌, ◌-◌, ◌≤◌}
use native.Mathlib.Omega.{arith}
use lib.Dec.{T, eqb}
use lib.ListN.{length, take, drop, length-append, take-append-drop, replicate}
use lib.Seq.{length-take-le, take_at}
use borrow.Author.Tests.{eq-eqb, ne_eqb, eqb-true}
use borrow.Rule.Slice.PartMut.{put_mid}
use Rattle.outcome.specs.declared.refusal.Refusal.{Refusal}
use Rattle.outcome.specs.Answer.{number_of, bad_profile, Check, ◌unless◌, first_refusal, Answers, AnswersFront}
use Rattle.outcome.proofs.Checks.{number_positive, passed, holds}
use Rattle.parameters.specs.declared.Params.{Params}
use Rattle.parameters.specs.Sound.{Sound}
use Rattle.profile.specs.declared.Profile.{Profile}
use Rattle.outcome.specs.Result.{Result, Ok, Err, number_in, refusal_in}
use Rattle.profile.specs.Rules.{Class, valid}
use Rattle.profile.specs.Table.{table_of}
use Rattle.profile.specs.Line.{longest, line_of, read_line, write_checks, write_line, Writes}
use Rattle.profile.proofs.RuleLaws.{done_passed, holds as holds_test}
use Rattle.profile.proofs.Theorems.{line_lengths_hold, writes_read}
use Rattle.scheme.specs.Sign.{signature_size, sign_checks, signature}
use Rattle.scheme.proofs.Accepted.{length_signature}
use Rattle.keygen.proofs.Parts.{put_next}
use Rattle.image.proofs.EntryLaws.{number_answer}
use Rattle.package.specs.Package.{package_max, package_of, make_sizes, make_checks, make_from_line_checks}
use Rattle.package.specs.Entries.{Room, Seals, MakesPackage, MakesFromLine}
use Rattle.package.proofs.Stages.{by_first, by_second, by_third, front_as}

-- ---- answers

-- a refusal that leaves all as it was
kept : {cs : List Check} (line old : List ℕ) (before k : ℕ) → (k ≡ 0 → ⊥) → k ≡ first_refusal cs
    → AnswersFront cs line old before k old before
kept line old before k some e =
    record {
      answers = record { answer = e; content = rw (ne_eqb k 0 some) refl };
      size = rw (ne_eqb k 0 some) refl;
    }

-- ---- sealing a line

module _ (p : Params) (private master salt line old : List ℕ) (n : ℕ) (sized : n ≡ signature_size p)
    (room : Room p line old) where
  -- the part that is lent for the signature
  pub part_length : n ≡ length (take n old)
  part_length = sym (length-take-le n old (omega (arith, sized, room.0)))

  module _ (r : ℕ) (front : List ℕ)
      (signed : Answers (sign_checks p private master salt line (length (take n old)))
      (signature p private master salt line) (take n old) r front)
    where
      -- as many bytes are lent for the signature as it has
      number : r ≡ first_refusal (sign_checks p private master salt line (signature_size p))
      number =
          signed.answer
          ∙ ap (λ (m : ℕ). first_refusal (sign_checks p private master salt line m)) (sym part_length ∙ sized)

      pub seal_refused : (before : ℕ) → (r ≡ 0 → ⊥)
          → Seals p private master salt line old before r (front ++ drop n old) before
      seal_refused before some =
          let same : front ≡ take n old = signed.content ∙ rw (ne_eqb r 0 some) refl in
          let whole : front ++ drop n old ≡ old = ap (λ (f : List ℕ). f ++ drop n old) same ∙ take-append-drop n old in
          subst (λ (out : List ℕ). Seals p private master salt line old before r out before) (sym whole)
          (kept (package_of p private master salt line) old before r some number)

      module _ (sound : Sound p) (none : r ≡ 0) where
        front_is : front ≡ signature p private master salt line
        front_is = signed.content ∙ rw (eq-eqb r 0 none) refl

        front_long : length front ≡ n
        front_long =
            ap (λ (f : List ℕ). length f) front_is
            ∙ length_signature p sound private master salt line (signature_size p) (sym number ∙ none)
            ∙ sym sized

        package_long : length (package_of p private master salt line) ≡ n + length line
        unfolding package_of
        package_long =
            length-append (signature p private master salt line) line
            ∙ ap (λ (m : ℕ). m + length line) (ap (λ (f : List ℕ). length f) (sym front_is) ∙ front_long)

        pub seal_done : (before : ℕ) (new : List ℕ) → new ≡ line
            → Seals p private master salt line old before 0
            (put_mid n ((n + length line) - n) (front ++ drop n old) new) (n + length line)
        unfolding package_of
        seal_done before new copied =
            record {
              answers =
                  record {
                    answer = sym none ∙ number;
                    content = put_next n front old new front_long (n + length line) (omega arith)
                        ∙ (λ i. front_is i ++ copied i ++ drop (sym package_long i) old);
                  };
              size = sym package_long;
            }

-- a front that is within some bytes
pub front_length : (n : ℕ) (bytes : List ℕ) → n ≤ length bytes → n ≡ length (take n bytes)
front_length n bytes within = sym (length-take-le n bytes within)

-- sizes that are right: there is room for the longest package
room_lent : (p : Params) (table private master salt : List ℕ) (lent : ℕ)
    → first_refusal (make_sizes p table private master salt lent) ≡ 0 → lent ≡ package_max p
room_lent p table private master salt lent ok =
    eqb-true lent (package_max p) (holds_test _ (passed (make_sizes p table private master salt lent) ok).1.1.1.1.0)

-- ---- from a profile

-- local bytes for the longest line, and what writing the line into them answers
abbrev pub blank : List ℕ
blank = replicate longest 0

module _ (table : List Class) (profile : Profile) {r : Result ℕ} (new : List ℕ) (written : Writes table profile blank r new) where
  -- only a broken rule is refused
  broken : (q : Refusal) → r ≡ Err q → number_of q ≡ first_refusal (bad_profile unless valid table profile ∷ [])
  unfolding write_line
  broken q e =
      ap number_in (sym e ∙ written.answered)
      ∙ number_answer (write_checks table profile blank) (length (line_of profile))

  module _ (n : ℕ) (e : r ≡ Ok n) where
    found : (T (eqb (length blank) longest) × (T (valid table profile) × Unit {0})) × (length (line_of profile) ≡ n)
    unfolding write_line
    found = done_passed (write_checks table profile blank) (length (line_of profile)) n (sym written.answered ∙ e)

    obeyed : valid table profile ≡ true
    obeyed = holds_test _ found.0.1.0

    pub written_short : n ≤ longest
    written_short = omega (arith, (line_lengths_hold table profile found.0.1.0).1, found.1)

    held : new ≡ line_of profile ++ drop (length (line_of profile)) blank
    held = written.content ∙ rw (← written.answered, e) refl

    written_line : take n new ≡ line_of profile
    written_line =
        ap (λ (bytes : List ℕ). take n bytes) held
        ∙ take_at (line_of profile) (drop (length (line_of profile)) blank) n found.1

module _ (p : Params) (table private master salt : List ℕ) (profile : Profile) (old : List ℕ)
    (before : ℕ) where
  -- sizes, rules and signing, in the order in which they refuse
  abbrev sizes : List Check
  sizes = make_sizes p table private master salt (length old)

  abbrev rules : List Check
  rules = bad_profile unless valid (table_of table) profile ∷ []

  abbrev signing : List Check
  signing = sign_checks p private master salt (line_of profile) (signature_size p)

  pub make_sizes_lem : (k : ℕ) → (k ≡ 0 → ⊥) → k ≡ first_refusal sizes
      → MakesPackage p table private master salt profile old before k old before
  unfolding make_checks
  make_sizes_lem k some e =
      kept (package_of p private master salt (line_of profile)) old before k some (by_first sizes rules signing k some e)

  module _ (sized : ℕ) (tested : sized ≡ first_refusal sizes) (none : sized ≡ 0) where
    pub front_room : (n : ℕ) (new : List ℕ) → length new ≡ longest → n ≤ length new → Room p (take n new) old
    front_room n new long within =
        let lent = room_lent p table private master salt (length old) (sym tested ∙ none) in
        (lent, omega (arith, front_length n new within, long))

    pub make_broken : {r : Result ℕ} (new : List ℕ) → Writes (table_of table) profile blank r new → (q : Refusal) → r ≡ Err q
        → MakesPackage p table private master salt profile old before (number_of q) old before
    unfolding make_checks
    make_broken new written q e =
        kept (package_of p private master salt (line_of profile)) old before (number_of q) (number_positive q)
        (by_second sizes rules signing (sym tested ∙ none) (number_of q) (number_positive q)
        (broken (table_of table) profile new written q e))

    pub make_sealed : {r : Result ℕ} (new : List ℕ) → Writes (table_of table) profile blank r new → (n : ℕ) → r ≡ Ok n
        → {k after : ℕ} {out : List ℕ} → Seals p private master salt (take n new) old before k out after
        → MakesPackage p table private master salt profile old before k out after
    unfolding make_checks
    make_sealed new written n e {k} {after} {out} sealed =
        front_as {cs = signing} {ds = sizes ++ rules ++ signing}
        (by_third sizes rules signing (sym tested ∙ none)
        (holds bad_profile (valid (table_of table) profile) [] (obeyed (table_of table) profile new written n e)))
        (λ _. refl)
        (subst (λ (l : List ℕ). Seals p private master salt l old before k out after)
        (written_line (table_of table) profile new written n e) sealed)

-- ---- from a line

module _ (p : Params) (table private master salt line old : List ℕ) (before : ℕ) where
  abbrev line_sizes : List Check
  line_sizes = make_sizes p table private master salt (length old)

  abbrev reading : List Check
  reading = refusal_in (read_line (table_of table) line)

  abbrev line_signing : List Check
  line_signing = sign_checks p private master salt line (signature_size p)

  pub make_line_sizes : (k : ℕ) → (k ≡ 0 → ⊥) → k ≡ first_refusal line_sizes
      → MakesFromLine p table private master salt line old before k old before
  unfolding make_from_line_checks
  make_line_sizes k some e =
      kept (package_of p private master salt line) old before k some (by_first line_sizes reading line_signing k some e)

  module _ (sized : ℕ) (tested : sized ≡ first_refusal line_sizes) (none : sized ≡ 0) where
    refuses : (k : ℕ) → (k ≡ 0 → ⊥) → k ≡ first_refusal reading
        → MakesFromLine p table private master salt line old before k old before
    unfolding make_from_line_checks
    refuses k some e =
        kept (package_of p private master salt line) old before k some
        (by_second line_sizes reading line_signing (sym tested ∙ none) k some e)

    pub make_line_broken : (q : Refusal) → Err q ≡ read_line (table_of table) line
        → MakesFromLine p table private master salt line old before (number_of q) old before
    make_line_broken q read = refuses (number_of q) (number_positive q) (rw (← read) refl)

    module _ (profile : Profile) (read : Ok profile ≡ read_line (table_of table) line) where
      pub read_room : Room p line old
      read_room =
          let back = writes_read (table_of table) line profile (sym read) in
          let bounds = line_lengths_hold (table_of table) profile back.1 in
          let lent = room_lent p table private master salt (length old) (sym tested ∙ none) in
          (lent, omega (arith, bounds.1, ap (λ (l : List ℕ). length l) back.0))

      pub make_line_sealed : {k after : ℕ} {new : List ℕ}
          → Seals p private master salt line old before k new after
          → MakesFromLine p table private master salt line old before k new after
      unfolding make_from_line_checks
      make_line_sealed sealed =
          front_as {cs = line_signing} {ds = line_sizes ++ reading ++ line_signing}
          (by_third line_sizes reading line_signing (sym tested ∙ none) (rw (← read) refl))
          (λ _. refl)
          sealed
