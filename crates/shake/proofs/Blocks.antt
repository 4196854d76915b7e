-- The fold over bytes is the sponge over the blocks of the padded string. Assumes nothing.
use mathlib.Core.Path.{◌≡◌, refl, ◌∙◌, sym, ap}
use mathlib.Core.Logic.{⊎_elim}
use mathlib.Core.List.{List, [], ◌∷◌, ◌++◌}
use Prim.Native.Nat.{ℕ, zero, suc, ◌+◌, ◌-◌, ◌*◌, ◌/◌, ◌%◌, ◌^◌, ◌<◌, ◌≤◌}
use native.Mathlib.Nat.{eq-or-lt_of_le, mod-lt, mod-add-mod, mod-eq_of_lt, mod_self, mul-div_cancel, div-add-mod', add-zero, zero-add}
use native.Mathlib.Omega.{arith}
use lib.ListN.{length, get_or, set, take, drop, replicate, length-append, length-drop, length-replicate, take-append-drop}
use lib.Pow.{pow_pos}
use lib.Bits.{bit_xor, xor_assoc, xor_block}
use lib.Seq.{take_all, set-set, get_or-set_same, length-take-le}
use borrow.Author.Tests.{eq-eqb, ne_eqb}
use Rattle.std.proofs.lemmas.List.Edits.{length-between}
use Rattle.keccak.specs.Keccak.{keccak_f}
use Rattle.keccak.proofs.Laws.{length_keccak_f}
use Rattle.shake.specs.InnerFold.{Sponge}
use Rattle.shake.specs.Shake.{lanes_of, xor_lanes, absorb_blocks, padding, padded, absorbed}
use Rattle.shake.specs.InnerFold.{sponge, xor_byte, xor_bytes, turned, absorb_byte, absorb_bytes, fresh, Bytes}
use Rattle.shake.proofs.Lanes.{xor_bytes_append, xor_bytes_zeros, bytes_append, cut, length_xor_byte, xor_bytes_block, bytes_take, bytes_drop}

-- absorbing in parts is absorbing the whole
pub absorb_bytes_append : (s : Sponge) (p q : List ℕ) → absorb_bytes s (p ++ q) ≡ absorb_bytes (absorb_bytes s p) q
unfolding absorb_bytes
absorb_bytes_append s [] q = refl
absorb_bytes_append s (b ∷ p) q = absorb_bytes_append (absorb_byte s b) p q

pub turned_full : (s : List ℕ) (at rate : ℕ) → at ≡ rate → turned s at rate ≡ sponge (keccak_f s) 0 rate
unfolding turned
turned_full s at rate e = rw (eq-eqb at rate e)

pub turned_room : (s : List ℕ) (at rate : ℕ) → at < rate → turned s at rate ≡ sponge s at rate
unfolding turned
turned_room s at rate h = rw (ne_eqb at rate (λ e. omega arith))

-- bytes that leave room in the block, and bytes that fill it
pub absorb_bytes_within : (s : List ℕ) (at rate : ℕ) (p : List ℕ) → at + length p < rate
    → absorb_bytes (sponge s at rate) p ≡ sponge (xor_bytes s at p) (at + length p) rate
unfolding absorb_bytes absorb_byte xor_bytes
absorb_bytes_within s at rate [] h = ap (λ (n : ℕ). sponge s n rate) (omega arith)
absorb_bytes_within s at rate (b ∷ p) h =
    ap (λ (r : Sponge). absorb_bytes r p) (turned_room (xor_byte s at b) (at + 1) rate (omega arith))
    ∙ absorb_bytes_within (xor_byte s at b) (at + 1) rate p (omega arith)
    ∙ ap (λ (n : ℕ). sponge (xor_bytes (xor_byte s at b) (at + 1) p) n rate) (omega arith)

pub absorb_bytes_full : (s : List ℕ) (at rate : ℕ) (p : List ℕ) → at + length p ≡ rate → at < rate
    → absorb_bytes (sponge s at rate) p ≡ sponge (keccak_f (xor_bytes s at p)) 0 rate
unfolding absorb_bytes absorb_byte xor_bytes
absorb_bytes_full s at rate [] e h = absurd (omega arith)
absorb_bytes_full s at rate (b ∷ []) e h = turned_full (xor_byte s at b) (at + 1) rate (omega arith)
absorb_bytes_full s at rate (b ∷ c ∷ p) e h =
    ap (λ (r : Sponge). absorb_bytes r (c ∷ p)) (turned_room (xor_byte s at b) (at + 1) rate (omega arith))
    ∙ absorb_bytes_full (xor_byte s at b) (at + 1) rate (c ∷ p) (omega arith) (omega arith)

-- a part of a string that fills the block, and its last part
pub absorb_bytes_block : (s : List ℕ) (at rate : ℕ) (p : List ℕ) (i e : ℕ) → at < rate → e ≡ i + (rate - at) → e ≤ length p
    → absorb_bytes (sponge s at rate) (drop i p) ≡ absorb_bytes (sponge (keccak_f (xor_bytes s at (take (e - i) (drop i p)))) 0 rate) (drop e p)
absorb_bytes_block s at rate p i e room end h =
    let part = take (e - i) (drop i p) in
    ap (absorb_bytes (sponge s at rate)) (cut p i e (omega arith))
    ∙ absorb_bytes_append (sponge s at rate) part (drop e p)
    ∙ ap (λ (r : Sponge). absorb_bytes r (drop e p)) (absorb_bytes_full s at rate part (omega (arith, length-between p i e h)) room)

pub absorb_bytes_last : (s : List ℕ) (at rate : ℕ) (p : List ℕ) (i : ℕ) → length p - i < rate - at
    → absorb_bytes (sponge s at rate) (drop i p) ≡ sponge (xor_bytes s at (take (length p - i) (drop i p))) (at + (length p - i)) rate
absorb_bytes_last s at rate p i h =
    absorb_bytes_within s at rate (drop i p) (omega (arith, length-drop i p))
    ∙ ap (λ (n : ℕ). sponge (xor_bytes s at (drop i p)) (at + n) rate) (length-drop i p)
    ∙ ap (λ (r : List ℕ). sponge (xor_bytes s at r) (at + (length p - i)) rate) (sym (take_all (length p - i) (drop i p) (omega (arith, length-drop i p))))

-- n whole blocks
absorb_bytes_blocks : (rate n : ℕ) (s p : List ℕ) → 0 < rate → rate ≤ 200 → length s ≡ 25 → length p ≡ n * rate → Bytes p
    → absorb_bytes (sponge s 0 rate) p ≡ sponge (absorb_blocks rate n s p) 0 rate
unfolding absorb_blocks absorb_bytes
absorb_bytes_blocks rate zero s [] some fits e h w = refl
absorb_bytes_blocks rate zero s (b ∷ p) some fits e h w = absurd (omega arith)
absorb_bytes_blocks rate (suc n) s p some fits e h w =
    let long : rate ≤ length p = omega arith in
    let block : length (take rate p) ≡ rate = length-take-le rate p long in
    let s' = keccak_f (xor_lanes s (lanes_of 25 (take rate p))) in
    ap (absorb_bytes (sponge s 0 rate)) (sym (take-append-drop rate p))
    ∙ absorb_bytes_append (sponge s 0 rate) (take rate p) (drop rate p)
    ∙ ap (λ (r : Sponge). absorb_bytes r (drop rate p))
    (absorb_bytes_full s 0 rate (take rate p) (omega arith) some
    ∙ ap (λ (r : List ℕ). sponge (keccak_f r) 0 rate) (xor_bytes_block s (take rate p) e (omega arith) (bytes_take rate p w)))
    ∙ absorb_bytes_blocks rate n s' (drop rate p) some fits (length_keccak_f (xor_lanes s (lanes_of 25 (take rate p))))
    (omega (arith, length-drop rate p)) (bytes_drop rate p w)

-- What a byte keeps: the rate, the 25 lanes, and room in the block
pub record Kept (s : Sponge) (rate : ℕ) : Type 0 where
  pub same : s.rate ≡ rate
  pub lanes : length s.lanes ≡ 25
  pub room : s.at < rate

pub turned_at : (s : List ℕ) (at rate : ℕ) → at ≤ rate → (turned s at rate).at ≡ at % rate
turned_at s at rate h =
    ⊎_elim
    (λ (store_full : at ≡ rate). rw (turned_full s at rate store_full) (sym (ap (λ (n : ℕ). n % rate) store_full ∙ mod_self rate)))
    (λ (less : at < rate). rw (turned_room s at rate less) (sym (mod-eq_of_lt less)))
    (eq-or-lt_of_le h)

turned_kept : (s : List ℕ) (at rate : ℕ) → length s ≡ 25 → at ≤ rate → 0 < rate
    → Kept (turned s at rate) rate
turned_kept s at rate e h some =
    ⊎_elim
    (λ (store_full : at ≡ rate). rw (turned_full s at rate store_full) (record { same = refl; lanes = length_keccak_f s; room = some }))
    (λ (less : at < rate). rw (turned_room s at rate less) (record { same = refl; lanes = e; room = less }))
    (eq-or-lt_of_le h)

absorb_byte_kept : (s : Sponge) (rate b : ℕ) → Kept s rate → Kept (absorb_byte s b) rate
unfolding absorb_byte
absorb_byte_kept s rate b k =
    rw k.same
    (turned_kept (xor_byte s.lanes s.at b) (s.at + 1) rate (length_xor_byte s.lanes s.at b ∙ k.lanes) (omega arith) (omega arith))

pub absorb_bytes_kept : (s : Sponge) (rate : ℕ) (p : List ℕ) → Kept s rate → Kept (absorb_bytes s p) rate
unfolding absorb_bytes
absorb_bytes_kept s rate [] k = k
absorb_bytes_kept s rate (b ∷ p) k = absorb_bytes_kept (absorb_byte s b) rate p (absorb_byte_kept s rate b k)

-- the place after a string
absorb_bytes_at : (s : Sponge) (rate : ℕ) (p : List ℕ) → Kept s rate → (absorb_bytes s p).at ≡ (s.at + length p) % rate
unfolding absorb_bytes absorb_byte
absorb_bytes_at s rate [] k = simp (add-zero, mod-eq_of_lt k.room)
absorb_bytes_at s rate (b ∷ p) k =
    let next : (absorb_byte s b).at ≡ (s.at + 1) % rate =
    turned_at (xor_byte s.lanes s.at b) (s.at + 1) s.rate (omega arith) ∙ ap (◌%◌ (s.at + 1)) k.same in
    let sum : s.at + 1 + length p ≡ s.at + suc (length p) = omega arith in
    absorb_bytes_at (absorb_byte s b) rate p (absorb_byte_kept s rate b k)
    ∙ ap (λ (n : ℕ). (n + length p) % rate) next
    ∙ mod-add-mod (s.at + 1) rate (length p)
    ∙ ap (λ (n : ℕ). n % rate) sum

fresh_kept : (rate : ℕ) → 0 < rate → Kept (fresh rate) rate
unfolding fresh
fresh_kept rate some = record { same = refl; lanes = refl; room = some }

-- ---- the padding

pub length_padding : (q : ℕ) → length (padding q) ≡ q
unfolding padding
length_padding zero = refl
length_padding (suc zero) = refl
length_padding (suc (suc q)) =
    let zeros : List ℕ = replicate q 0 in
    omega (arith, length-append zeros (0x80 ∷ []), length-replicate {A = ℕ} q 0)

bytes_padding : (q : ℕ) → Bytes (padding q)
unfolding padding
bytes_padding zero i = omega arith
bytes_padding (suc zero) zero = omega arith
bytes_padding (suc zero) (suc i) = omega arith
bytes_padding (suc (suc q)) zero = omega arith
bytes_padding (suc (suc q)) (suc i) = bytes_append (replicate q 0) (0x80 ∷ []) (zeros q) last i
  where
    zeros : (n : ℕ) → Bytes (replicate n 0)
    zeros zero i = omega arith
    zeros (suc n) zero = omega arith
    zeros (suc n) (suc i) = zeros n i

    last : Bytes (0x80 ∷ [])
    last zero = omega arith
    last (suc i) = omega arith

-- two bytes at one place
xor_byte_twice : (s : List ℕ) (i a b : ℕ) → i < 8 * length s → xor_byte (xor_byte s i a) i b ≡ xor_byte s i (bit_xor a b)
unfolding xor_byte
xor_byte_twice s i a b h =
    let k = 8 * (i % 8) in
    let x = get_or s (i / 8) 0 in
    let inside : i / 8 < length s = omega arith in
    let both : bit_xor (a * 2 ^ k) (b * 2 ^ k) ≡ bit_xor a b * 2 ^ k =
    simp add-zero at (xor_block k a b 0 0 (pow_pos k) (pow_pos k)) in
    set-set s (i / 8) (bit_xor x (a * 2 ^ k)) (bit_xor (get_or (set s (i / 8) (bit_xor x (a * 2 ^ k))) (i / 8) 0) (b * 2 ^ k))
    ∙ ap (λ (y : ℕ). set s (i / 8) (bit_xor y (b * 2 ^ k))) (get_or-set_same s (i / 8) (bit_xor x (a * 2 ^ k)) 0 inside)
    ∙ ap (set s (i / 8)) (xor_assoc x (a * 2 ^ k) (b * 2 ^ k) ∙ ap (bit_xor x) both)

-- the padding goes in as two bytes: the suffix at the place, and the last bit at the end of the block
xor_bytes_padding : (s : List ℕ) (at q : ℕ) → 0 < q → at < 8 * length s
    → xor_bytes s at (padding q) ≡ xor_byte (xor_byte s at 0x1F) (at + q - 1) 0x80
unfolding padding xor_bytes
xor_bytes_padding s at zero some h = absurd (omega arith)
xor_bytes_padding s at (suc zero) some h =
    let end : at ≡ at + 1 - 1 = omega arith in
    sym (xor_byte_twice s at 0x1F 0x80 h) ∙ ap (λ (n : ℕ). xor_byte (xor_byte s at 0x1F) n 0x80) end
xor_bytes_padding s at (suc (suc q)) some h =
    let s' = xor_byte s at 0x1F in
    let zeros : List ℕ = replicate q 0 in
    let end : at + 1 + length zeros ≡ at + suc (suc q) - 1 = omega (arith, length-replicate {A = ℕ} q 0) in
    xor_bytes_append s' (at + 1) zeros (0x80 ∷ [])
    ∙ ap (λ (r : List ℕ). xor_byte r (at + 1 + length zeros) 0x80) (xor_bytes_zeros s' (at + 1) q)
    ∙ ap (λ (n : ℕ). xor_byte s' n 0x80) end

-- THE LAW of the fold: padded by two bytes and permuted, it is the state that squeezing starts from
pub absorbed_fold : (rate : ℕ) (m : List ℕ) → 0 < rate → rate ≤ 200 → Bytes m
    → keccak_f (xor_byte (xor_byte (absorb_bytes (fresh rate) m).lanes (absorb_bytes (fresh rate) m).at 0x1F) (rate - 1) 0x80)
    ≡ absorbed rate m
unfolding absorbed padded fresh
absorbed_fold rate m some fits w =
    let f = absorb_bytes (fresh rate) m in
    let kept = absorb_bytes_kept (fresh rate) rate m (fresh_kept rate some) in
    let place : f.at ≡ length m % rate = absorb_bytes_at (fresh rate) rate m (fresh_kept rate some) ∙ simp zero-add in
    let q = rate - length m % rate in
    let fills : f.at + length (padding q) ≡ rate = omega (arith, length_padding q, mod-lt (length m) some) in
    let n = length m / rate + 1 in
    let long : length (m ++ padding q) ≡ n * rate =
    length-append m (padding q) ∙ omega (arith, length_padding q, mod-lt (length m) some, div-add-mod' (length m) rate) in
    let count : length (m ++ padding q) / rate ≡ n = ap (λ (x : ℕ). x / rate) long ∙ mul-div_cancel n some in
    let end : f.at + q - 1 ≡ rate - 1 = omega (arith, mod-lt (length m) some) in
    let folded : absorb_bytes (fresh rate) (m ++ padding q)
    ≡ sponge (keccak_f (xor_byte (xor_byte f.lanes f.at 0x1F) (rate - 1) 0x80)) 0 rate =
    absorb_bytes_append (fresh rate) m (padding q)
    ∙ ap (λ (r : ℕ). absorb_bytes (sponge f.lanes f.at r) (padding q)) kept.same
    ∙ absorb_bytes_full f.lanes f.at rate (padding q) fills kept.room
    ∙ ap (λ (r : List ℕ). sponge (keccak_f r) 0 rate)
    (xor_bytes_padding f.lanes f.at q (omega (arith, mod-lt (length m) some)) (omega arith)
    ∙ ap (λ (x : ℕ). xor_byte (xor_byte f.lanes f.at 0x1F) x 0x80) end) in
    let blocks = absorb_bytes_blocks rate n (replicate 25 0) (m ++ padding q) some fits refl long (bytes_append m (padding q) w (bytes_padding q)) in
    ap (λ (r : Sponge). r.lanes) (sym folded ∙ blocks)
    ∙ ap (λ (x : ℕ). absorb_blocks rate x (replicate 25 0) (m ++ padding q)) (sym count)
