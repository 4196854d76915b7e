-- `reply`: h and the second challenges in local arrays, then the signature. Assumes nothing.
use mathlib.Core.Path.{◌≡◌, refl, ◌∙◌, ap, sym}
use mathlib.Core.List.{List}
use Prim.Native.Nat.{ℕ, ◌+◌, ◌*◌}
use native.Mathlib.Nat.{add_assoc}
use native.Mathlib.Omega.{arith}
use lib.ListN.{length, replicate}
use lib.Seq.{take_all}
use Rattle.std.proofs.lemmas.Grind.{common_steps}
use Rattle.scheme.specs.Verify.{offset}
use Rattle.scheme.proofs.Challenges.{second_fills}
use Rattle.signer.proofs.Loops.{held}
use Rattle.signer.proofs.sign.reply.Goals as goal

pub write_signature-requires-clause-bs_len : goal.write_signature-requires-clause-bs_len
write_signature-requires-clause-bs_len c =
    let a = c.args in
    let given = a.given.now in
    let category = given.category in
    let p = category.sizes in
    let long : length c.second_challenges.new.out ≡ p.t = grind (arith, common_steps) in
    let b =
    held (replicate 512 0) long ∙ sym (take_all p.t c.second_challenges.new.out (omega arith))
    ∙ c.in_ok-second_challenges.ensures.content refl
    in
    let all =
    ap (λ (b : List ℕ). offset p b p.t) b ∙ second_fills p category.sound a.c.now given.betas.now _ a.salt.now a.msg.now
    in (
      grind (arith, common_steps),
      c.requires.2 ∙ add_assoc (3 * p.digest) _ _ ∙ ap (λ (n : ℕ). 3 * p.digest + n) (sym all),
    )
