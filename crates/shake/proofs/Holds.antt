-- What a sponge holds, from the fold: the steps of `absorb` and `squeeze`. Assumes nothing.
use mathlib.Core.Path.{◌≡◌, refl, ◌∙◌, sym, ap}
use mathlib.Core.Bool.{Bool, true, false}
use mathlib.Core.List.{List, [], ◌∷◌, ◌++◌}
use Prim.Native.Nat.{ℕ, zero, suc, ◌+◌, ◌-◌, ◌%◌, ◌<◌}
use native.Mathlib.Nat.{mod-lt}
use native.Mathlib.Omega.{arith}
use lib.Dec.{eqb}
use lib.ListN.{length, get_or, take}
use Rattle.std.proofs.lemmas.List.{take_more}
use denote.Ref.{Bor}
use Rattle.outcome.specs.Answer.{pick}
use Rattle.keccak.specs.Keccak.{keccak_f}
use Rattle.shake.specs.InnerFold.{Sponge}
use Rattle.shake.specs.Shake.{squeezed, shake, behind}
use Rattle.shake.specs.InnerFold.{sponge, xor_byte, turned, absorb_byte, absorb_bytes, fresh, Bytes, Ready, Holds, Absorbs, Squeezes}
use Rattle.shake.proofs.Lanes.{bytes_append}
use Rattle.shake.proofs.Blocks.{absorb_bytes_append, turned_at, absorbed_fold}

pub absorbs : (s s' : Sponge) (part : List ℕ) → Ready s' → Bytes part → s' ≡ absorb_bytes s part → Absorbs s part s'
absorbs s s' part r w e =
    record {
      ready = r;
      holds = λ {rate} {m} h. record {
        ready = r;
        bytes = bytes_append m part h.bytes w;
        state = e ∙ ap (λ (x : Sponge). absorb_bytes x part) h.state ∙ sym (absorb_bytes_append (fresh rate) m part);
      };
    }

bytes_one : (b : ℕ) → b < 256 → Bytes (b ∷ [])
bytes_one b h zero = h
bytes_one b h (suc i) = omega arith

turned_rate : (s : List ℕ) (at rate : ℕ) → (turned s at rate).rate ≡ rate
unfolding turned
turned_rate s at rate = either (eqb at rate)
  where
    either : (b : Bool) → (pick b (sponge (keccak_f s) 0 rate) (sponge s at rate)).rate ≡ rate
    either true = refl
    either false = refl

-- a byte at the sponge's place, which may fill the block
pub absorbs_byte : (s s' : Sponge) (b : ℕ) → Ready s → b < 256 → s' ≡ turned (xor_byte s.lanes s.at b) (s.at + 1) s.rate
    → Ready s' × Absorbs s (b ∷ []) s'
unfolding absorb_bytes absorb_byte
absorbs_byte s s' b r h e =
    let taken = xor_byte s.lanes s.at b in
    let same : s'.rate ≡ s.rate = ap (λ (x : Sponge). x.rate) e ∙ turned_rate taken (s.at + 1) s.rate in
    let place : s'.at ≡ (s.at + 1) % s.rate = ap (λ (x : Sponge). x.at) e ∙ turned_at taken (s.at + 1) s.rate (omega (arith, r.room)) in
    let ready : Ready s' = record {
      rated = rw same r.rated;
      room = rw (same, place) (mod-lt (s.at + 1) {m = s.rate} r.rated.some);
    } in
    (ready, absorbs s s' (b ∷ []) ready (bytes_one b h) e)

absorb_bytes_rate : (s : Sponge) (p : List ℕ) → (absorb_bytes s p).rate ≡ s.rate
unfolding absorb_bytes absorb_byte
absorb_bytes_rate s [] = refl
absorb_bytes_rate s (b ∷ p) = absorb_bytes_rate (absorb_byte s b) p ∙ turned_rate (xor_byte s.lanes s.at b) (s.at + 1) s.rate

pub squeezes : (s : Sponge) (d : ℕ) (out : List ℕ)
    → out ≡ squeezed s.rate d (keccak_f (xor_byte (xor_byte s.lanes s.at 0x1F) (s.rate - 1) 0x80)) → Squeezes s d out
unfolding fresh shake
squeezes s d out e =
    record {
      holds = λ {rate} {m} h.
          let f = absorb_bytes (fresh rate) m in
          let same : s.rate ≡ rate = ap (λ (x : Sponge). x.rate) h.state ∙ absorb_bytes_rate (fresh rate) m in
          let ready = h.ready.rated in
          e
          ∙ ap (λ (x : Sponge). squeezed s.rate d (keccak_f (xor_byte (xor_byte x.lanes x.at 0x1F) (s.rate - 1) 0x80))) h.state
          ∙ ap (λ (r : ℕ). squeezed r d (keccak_f (xor_byte (xor_byte f.lanes f.at 0x1F) (r - 1) 0x80))) same
          ∙ ap (squeezed rate d) (absorbed_fold rate m (omega arith) (omega arith) h.bytes);
    }

-- one more part behind the others
behind_push : (m : List ℕ) (parts : List (Bor (List ℕ))) (part : Bor (List ℕ)) → behind m (parts ++ part ∷ []) ≡ behind m parts ++ part.now
behind_push m [] part = refl
behind_push m (p ∷ parts) part = behind_push (m ++ p.now) parts part

pub holds_more : {s : Sponge} {rate i : ℕ} (m : List ℕ) (parts : List (Bor (List ℕ))) (part : Bor (List ℕ)) → i < length parts
    → Holds s rate (behind m (take i parts) ++ (get_or parts i part).now) → Holds s rate (behind m (take (i + 1) parts))
holds_more {s} {rate} {i} m parts part inside h = rw (take_more parts i part inside, behind_push) h
