-- A reply to the second challenge 0, y and σ packed: the answers of its fields, and what it gives. Assumes nothing.
use mathlib.Core.Path.{◌≡◌, refl, ◌∙◌, sym, ap}
use mathlib.Core.List.{List, [], ◌∷◌, ◌++◌}
use Prim.Native.Nat.{ℕ, ◌+◌, ◌≤◌}
use native.Mathlib.Omega.{arith}
use borrow.Author.Tests.{ne_eqb}
use lib.ListN.{length, take, drop, replicate, length-drop}
use lib.Seq.{length-take-le}
use Rattle.std.proofs.Common.{Ok, Err}
use Rattle.outcome.specs.declared.refusal.Refusal.{Refusal}
use Rattle.outcome.specs.Answer.{number_of, first_refusal, Answers}
use Rattle.outcome.specs.Result.{Result}
use Rattle.outcome.proofs.Checks.{answered}
use Rattle.packing.specs.Packing.{pack, unpack, size, Unpacks}
use Rattle.packing.proofs.Below.{Below, below_take, below_drop}
use Rattle.packing.proofs.RoundTrip.{pack_unpack}
use Rattle.parameters.specs.declared.Params.{Params}
use Rattle.parameters.specs.declared.category.Category.{Category}
use Rattle.linear.specs.Linear.{scaled, syndrome, less_times}
use Rattle.scheme.specs.Strings.{digest, commitment0_string, response_string, round_number}
use Rattle.scheme.specs.Round.{
  values_size,
  reply_size,
  reply_values,
  reply_exponents,
  reply_fields,
  reply_checks,
  reply_syndrome,
  reply_string,
  reply_response,
}
use Rattle.verifier.specs.declared.reply.Digests.{Digests}
use Rattle.verifier.specs.InnerRecomputed.{Made, Recomputed}
use Rattle.verifier.proofs.Exits.{stop, past, refused, accepted}
use Rattle.verifier.proofs.Fields.{field_checks, unpacked, Read, reads}
use Rattle.verifier.proofs.Parts.{written}

-- the reply is cut behind y
pub record Cut (p : Params) (reply values exponents : List ℕ) : Type 0 where
  pub fits : p.n ≤ 256
  pub long : length reply ≡ values_size p + size 3 p.n
  pub front : values ≡ take (values_size p) reply
  pub back : exponents ≡ drop (values_size p) reply

pub cut : (p : Category) {reply values exponents : List ℕ} {at : ℕ} → length reply ≡ reply_size p.sizes 0
    → at ≡ values_size p.sizes → values ≡ take at reply → exponents ≡ drop at reply → Cut p.sizes reply values exponents
cut p {reply} long e front back =
    record {
      fits = p.sound.n_fits;
      long = long;
      front = front ∙ ap (λ (k : ℕ). take k reply) e;
      back = back ∙ ap (λ (k : ℕ). drop k reply) e;
    }

module _ {p : Params} {reply values exponents : List ℕ} (cut : Cut p reply values exponents) where
  values_long : length values ≡ size 7 p.n
  values_long = ap length cut.front ∙ length-take-le (values_size p) reply (omega (arith, cut.long))

  exponents_long : length exponents ≡ size 3 p.n
  exponents_long = ap length cut.back ∙ length-drop (values_size p) reply ∙ omega (arith, cut.long)

  -- each part is unpacked into the first places of an array
  values_answer : {r : ℕ} {new : List ℕ} → Unpacks 7 127 values (take p.n (replicate 256 0)) r new
      → Answers (field_checks 7 127 p.n values) (unpack 7 p.n values) (take p.n (replicate 256 0)) r new
  values_answer = unpacked 7 127 p.n (length-take-le p.n (replicate 256 0) cut.fits) refl values_long

  exponents_answer : {r : ℕ} {new : List ℕ} → Unpacks 3 7 exponents (take p.n (replicate 256 0)) r new
      → Answers (field_checks 3 7 p.n exponents) (unpack 3 p.n exponents) (take p.n (replicate 256 0)) r new
  exponents_answer = unpacked 3 7 p.n (length-take-le p.n (replicate 256 0) cut.fits) refl exponents_long

  pub values_read : {new : List ℕ} → Unpacks 7 127 values (take p.n (replicate 256 0)) 0 new
      → length new ≡ length {A = ℕ} (take p.n (replicate 256 0))
      → Read 7 127 p.n values (take p.n (new ++ drop p.n (replicate 256 0)))
  values_read answers kept =
      reads 7 127 p.n (values_answer answers) (written p.n (replicate 256 0) cut.fits kept refl)

  pub exponents_read : {new : List ℕ} → Unpacks 3 7 exponents (take p.n (replicate 256 0)) 0 new
      → length new ≡ length {A = ℕ} (take p.n (replicate 256 0))
      → Read 3 7 p.n exponents (take p.n (new ++ drop p.n (replicate 256 0)))
  exponents_read answers kept =
      reads 3 7 p.n (exponents_answer answers) (written p.n (replicate 256 0) cut.fits kept refl)

  -- the tests of both are those of the reply
  tests_are : first_refusal (field_checks 7 127 p.n values ++ field_checks 3 7 p.n exponents)
      ≡ first_refusal (reply_fields p reply)
  unfolding reply_fields reply_values reply_exponents
  tests_are = λ j. first_refusal (field_checks 7 127 p.n (cut.front j) ++ field_checks 3 7 p.n (cut.back j))

  module _ (vs s : List ℕ) (β : ℕ) (salt : List ℕ) (i : ℕ) where
    pub values_refuse : {new : List ℕ} (r : Refusal) → Unpacks 7 127 values (take p.n (replicate 256 0)) (number_of r) new
        → Recomputed p vs s 0 β reply salt i (Err r)
    unfolding reply_checks
    values_refuse r answers =
        refused r
        (stop (field_checks 7 127 p.n values) (field_checks 3 7 p.n exponents) r (values_answer answers).answer ∙ tests_are)

    pub exponents_refuse : {ys new : List ℕ} (r : Refusal) → Unpacks 7 127 values (take p.n (replicate 256 0)) 0 ys
        → Unpacks 3 7 exponents (take p.n (replicate 256 0)) (number_of r) new → Recomputed p vs s 0 β reply salt i (Err r)
    unfolding reply_checks
    exponents_refuse r first answers =
        refused r
        (past (field_checks 7 127 p.n values) (field_checks 3 7 p.n exponents) (values_answer first).answer
        (exponents_answer answers).answer ∙ tests_are)

    module _
        (bytes : Below 256 reply)
        {ys es : List ℕ}
        (y : Read 7 127 p.n values ys)
        (e : Read 3 7 p.n exponents es)
      where
        passes : 0 ≡ first_refusal (reply_fields p reply)
        passes =
            sym (answered (field_checks 7 127 p.n values ++ field_checks 3 7 p.n exponents)
            (y.ranged, (y.spare, (e.ranged, (e.spare, tt))))) ∙ tests_are

        -- the packed forms of what was read are the reply's own bytes
        packed_values : values ≡ pack 7 (reply_values p reply)
        unfolding reply_values
        packed_values =
            sym (pack_unpack 7 p.n values (rw cut.front (below_take (values_size p) bytes)) values_long y.spare)
            ∙ ap (λ (x : List ℕ). pack 7 (unpack 7 p.n x)) cut.front

        packed_exponents : exponents ≡ pack 3 (reply_exponents p reply)
        unfolding reply_exponents
        packed_exponents =
            sym (pack_unpack 3 p.n exponents (rw cut.back (below_drop (values_size p) bytes)) exponents_long e.spare)
            ∙ ap (λ (x : List ℕ). pack 3 (unpack 3 p.n x)) cut.back

        syndrome_made : {xs : List ℕ} → xs ≡ less_times β (syndrome p.k vs (scaled es ys)) s
            → xs ≡ reply_syndrome p vs s β reply
        unfolding reply_syndrome reply_values reply_exponents
        syndrome_made d =
            d
            ∙ (λ j. less_times β (syndrome p.k vs (scaled (e.fields j) (y.fields j))) s)
            ∙ (λ j. less_times β (syndrome p.k vs (scaled (unpack 3 p.n (cut.back j)) (unpack 7 p.n (cut.front j)))) s)

        pub values_made : {xs : List ℕ} {digests : Digests} → xs ≡ less_times β (syndrome p.k vs (scaled es ys)) s
            → Made p (0 ∷ pack 7 xs ++ exponents ++ salt ++ round_number i) (2 ∷ values) digests
            → Recomputed p vs s 0 β reply salt i (Ok digests)
        unfolding reply_checks reply_string reply_response commitment0_string response_string
        values_made d made =
            let x = syndrome_made d in
            accepted passes
            (record {
              commitment = made.commitment ∙ (λ j. digest p (0 ∷ pack 7 (x j) ++ packed_exponents j ++ salt ++ round_number i));
              hash = made.hash ∙ (λ j. digest p (2 ∷ packed_values j));
            })

-- under a challenge other than 1 the tests and what is given are those under 0
module _ {p : Params} {vs s : List ℕ} {b β : ℕ} {reply salt : List ℕ} {i : ℕ} {r : Result Digests} where
  pub as_other : (b ≡ 1 → ⊥) → Recomputed p vs s 0 β reply salt i r → Recomputed p vs s b β reply salt i r
  unfolding reply_checks reply_string reply_response
  as_other h q =
      record {
        answer = q.answer ∙ rw (ne_eqb b 1 h);
        content = λ made same. let m = q.content made same in
            record { commitment = m.commitment ∙ rw (ne_eqb b 1 h); hash = m.hash ∙ rw (ne_eqb b 1 h) };
      }

  -- and under 1 a seed needs neither V nor s
  pub as_seed : b ≡ 1 → Recomputed p [] [] 1 β reply salt i r → Recomputed p vs s b β reply salt i r
  unfolding reply_string
  as_seed e q =
      rw e
      (record {
        answer = q.answer;
        content = λ made same. record {
          commitment = (q.content made same).commitment;
          hash = (q.content made same).hash;
        };
      })
