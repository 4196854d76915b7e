-- A block read in groups of whole fields, for every width. Assumes nothing.
use mathlib.Core.Path.{◌≡◌, refl, ◌∙◌, sym, ap}
use mathlib.Core.List.{List, [], ◌∷◌, ◌++◌}
use Prim.Native.Nat.{ℕ, zero, suc, ◌+◌, ◌*◌, ◌/◌, ◌%◌, ◌^◌, ◌<◌, ◌≤◌}
use native.Mathlib.Nat.{mul-add-div, mul-div_cancel, div-eq_of_lt}
use native.Mathlib.Numerals.{add-one}
use native.Mathlib.Omega.{arith}
use lib.ListN.{length, get_or, take, drop, length-append, length-drop}
use lib.Seq.{drop-drop, drop-cons, take_at, drop_at}
use Rattle.packing.specs.Packing.{number, digits, unpack}
use Rattle.packing.proofs.Below.{Below, below_drop, below_at}
use Rattle.packing.proofs.Base.{length_digits, digits_below, digits_add, digits_mod_pow, number_take, number_drop}
use Rattle.sampling.specs.Sampling.{fields}

pub length_fields : (w : ℕ) (block : List ℕ) → length (fields w block) ≡ 8 * length block / w
unfolding fields unpack
length_fields w block = length_digits w (8 * length block / w) (number 8 block)

pub fields_below : (w : ℕ) (block : List ℕ) → Below (2 ^ w) (fields w block)
unfolding fields unpack
fields_below w block = digits_below w (8 * length block / w) (number 8 block)

fields_eight : (w : ℕ) (group : List ℕ) → 8 * length group / w ≡ 8 → digits w 8 (number 8 group) ≡ fields w group
unfolding fields unpack
fields_eight w group e = ap (λ (k : ℕ). digits w k (number 8 group)) (sym e)

-- x bytes that are m whole fields, and the rest
pub fields_split : (w m x : ℕ) {block : List ℕ} → Below 256 block → 0 < w → 8 * x ≡ w * m → x ≤ length block →
    fields w block ≡ digits w m (number 8 (take x block)) ++ fields w (drop x block)
unfolding fields unpack
fields_split w m x {block} b pos e h =
    let left : ℕ = 8 * length (drop x block) / w in
    let counted : 8 * length block / w ≡ m + left =
    ap (λ (k : ℕ). k / w) (omega (arith, length-drop x block)) ∙ mul-add-div pos m (8 * length (drop x block))
    in
    let first : digits w m (number 8 block) ≡ digits w m (number 8 (take x block)) =
    rw (number_take 8 x b) (sym (digits_mod_pow w m (8 * x) (number 8 block) (omega arith)))
    in
    let rest : number 8 block / 2 ^ (w * m) ≡ number 8 (drop x block) =
    ap (λ (k : ℕ). number 8 block / 2 ^ k) (sym e) ∙ sym (number_drop 8 x b)
    in
    ap (λ (k : ℕ). digits w k (number 8 block)) counted ∙
    digits_add w m left (number 8 block) ∙
    λ i. first i ++ digits w left (rest i)

-- the same at a place of the block
pub fields_at : (w m x at : ℕ) {block : List ℕ} → Below 256 block → 0 < w → 8 * x ≡ w * m → at + x ≤ length block →
    fields w (drop at block) ≡ digits w m (number 8 (take x (drop at block))) ++ fields w (drop (at + x) block)
fields_at w m x at {block} b pos e h =
    fields_split w m x (below_drop at b) pos e (omega (arith, length-drop at block)) ∙
    ap (λ (s : List ℕ). digits w m (number 8 (take x (drop at block))) ++ fields w s) (drop-drop x at block)

-- bits that make no field are not looked at
pub fields_none : (w : ℕ) (block : List ℕ) → 8 * length block < w → fields w block ≡ []
unfolding fields unpack digits
fields_none w block h = ap (λ (k : ℕ). digits w k (number 8 block)) (div-eq_of_lt h)

-- a field of two bytes, the low one first
pub fields_16 : (at : ℕ) {block : List ℕ} → Below 256 block → at + 2 ≤ length block →
    fields 16 (drop at block) ≡ (get_or block at 0 + 256 * get_or block (at + 1) 0) ∷ fields 16 (drop (at + 2) block)
unfolding digits number
fields_16 at {block} b h =
    let low : ℕ = get_or block at 0 in
    let high : ℕ = get_or block (at + 1) 0 in
    let bytes : drop at block ≡ low ∷ (high ∷ drop (suc (at + 1)) block) =
    rw (drop-cons block at 0 (omega arith), ← (add-one at), drop-cons block (at + 1) 0 (omega arith))
    in
    let field : number 8 (take 2 (drop at block)) % 65536 ≡ low + 256 * high =
    rw bytes (omega (arith, below_at b at (omega arith), below_at b (at + 1) (omega arith)))
    in
    fields_at 16 1 2 at b (omega arith) refl h ∙ ap (λ (r : ℕ). r ∷ fields 16 (drop (at + 2) block)) field

-- the two bytes in front, and what stands behind them
pub fields_pair : (pair later : List ℕ) → Below 256 (pair ++ later) → length pair ≡ 2 →
    fields 16 (pair ++ later) ≡ (get_or pair 0 0 + 256 * get_or pair 1 0) ∷ fields 16 later
fields_pair [] later b e = absurd (omega arith)
fields_pair (x ∷ []) later b e = absurd (omega arith)
fields_pair (x ∷ (y ∷ [])) later b e = fields_16 0 b (omega arith)
fields_pair (x ∷ (y ∷ (z ∷ zs))) later b e = absurd (omega arith)

-- w bytes are eight fields
pub fields_group : (w : ℕ) (group later : List ℕ) → Below 256 (group ++ later) → 0 < w → length group ≡ w →
    fields w (group ++ later) ≡ fields w group ++ fields w later
fields_group w group later b pos e =
    let eight : 8 * length group / w ≡ 8 = rw e (mul-div_cancel 8 pos) in
    let whole : digits w 8 (number 8 group) ≡ fields w group = fields_eight w group eight in
    fields_split w 8 w b pos (omega arith) (omega (arith, length-append group later)) ∙
    rw (take_at group later w e, drop_at group later w e, whole)

-- field i of sixteen bits is at bytes 2 i and 2 i + 1
fields_16_from : (i at : ℕ) {block : List ℕ} → Below 256 block → at + 2 * i + 2 ≤ length block →
    get_or (fields 16 (drop at block)) i 0 ≡ get_or block (at + 2 * i) 0 + 256 * get_or block (at + 2 * i + 1) 0
fields_16_from zero at {block} b h =
    let here : at + 2 * 0 ≡ at = omega arith in
    rw (here, fields_16 at b (omega arith))
fields_16_from (suc i) at {block} b h =
    let next : at + 2 + 2 * i ≡ at + 2 * suc i = omega arith in
    rw (fields_16 at b (omega arith), ← next) (fields_16_from i (at + 2) b (omega arith))

pub fields_16_at : (i : ℕ) {block : List ℕ} → Below 256 block → 2 * i + 2 ≤ length block →
    get_or (fields 16 block) i 0 ≡ get_or block (2 * i) 0 + 256 * get_or block (2 * i + 1) 0
fields_16_at i {block} b h =
    let here : 0 + 2 * i ≡ 2 * i = omega arith in
    rw here at (fields_16_from i 0 b (omega arith))
