-- Bytes that go into the state one by one, and the same bytes as the lanes of a block. Assumes nothing.
use mathlib.Core.Path.{◌≡◌, refl, ◌∙◌, sym, ap}
use mathlib.Core.Logic.{⊎_elim}
use mathlib.Core.List.{List, [], ◌∷◌, ◌++◌}
use Prim.Native.Nat.{ℕ, zero, suc, ◌+◌, ◌-◌, ◌*◌, ◌/◌, ◌%◌, ◌^◌, ◌<◌, ◌≤◌}
use native.Mathlib.Nat.{add-zero, zero-mul, eq-zero-or-pos, mul-lt-mul_of_pos_right}
use native.Mathlib.Numerals.{add-one}
use native.Mathlib.Omega.{arith}
use lib.ListN.{length, get_or, set, take, drop, replicate, length-set, length-append, length-take, length-drop, take-append-drop, drop_of_length-le}
use lib.Seq.{drop-drop, drop-cons, set_out, set-set, get_or-set_same, length-take-le, set_at, get_or_at, append_snoc, set-get_or, get_or-drop}
use lib.Arith.{digits_lt}
use lib.Pow.{pow-add, pow_pos, shl_exact}
use lib.Bits.{bit_xor, bit_or, or_shifted_r, xor_zero_r, xor_assoc, xor_comm, xor_shifted}
use Rattle.std.proofs.lemmas.List.Edits.{length-between}
use Rattle.shake.specs.Shake.{little, lanes_of, xor_lanes}
use Rattle.shake.specs.InnerFold.{xor_byte, xor_bytes, Bytes}

pub length_xor_byte : (s : List ℕ) (i b : ℕ) → length (xor_byte s i b) ≡ length s
unfolding xor_byte
length_xor_byte s i b = length-set s (i / 8) (bit_xor (get_or s (i / 8) 0) (b * 2 ^ (8 * (i % 8))))

pub xor_bytes_append : (s : List ℕ) (i : ℕ) (xs bs : List ℕ) → xor_bytes s i (xs ++ bs) ≡ xor_bytes (xor_bytes s i xs) (i + length xs) bs
unfolding xor_bytes
xor_bytes_append s i [] bs = ap (λ (n : ℕ). xor_bytes s n bs) (sym (add-zero i))
xor_bytes_append s i (a ∷ xs) bs =
    let place : i + 1 + length xs ≡ i + suc (length xs) = omega arith in
    xor_bytes_append (xor_byte s i a) (i + 1) xs bs ∙ ap (λ (n : ℕ). xor_bytes (xor_bytes (xor_byte s i a) (i + 1) xs) n bs) place

pub xor_byte_zero : (s : List ℕ) (i : ℕ) → xor_byte s i 0 ≡ s
unfolding xor_byte
xor_byte_zero s i = simp (zero-mul, xor_zero_r) (set-get_or s (i / 8) 0)

pub xor_bytes_zeros : (s : List ℕ) (i n : ℕ) → xor_bytes s i (replicate n 0) ≡ s
unfolding xor_bytes
xor_bytes_zeros s i zero = refl
xor_bytes_zeros s i (suc n) =
    ap (λ (r : List ℕ). xor_bytes r (i + 1) (replicate n 0)) (xor_byte_zero s i) ∙ xor_bytes_zeros s (i + 1) n

power_next : (i : ℕ) → 2 ^ (8 * (i + 1)) ≡ 256 * 2 ^ (8 * i)
power_next i =
    let next : 8 * (i + 1) ≡ 8 + 8 * i = omega arith in
    ap (λ (n : ℕ). 2 ^ n) next ∙ pow-add 2 8 (8 * i)

-- a lane takes on byte b at place j and then the number y above it: it has taken on b + 256 y at place j
xor_next : (x b y j : ℕ) → b < 256
    → bit_xor (bit_xor x (b * 2 ^ (8 * j))) (y * 2 ^ (8 * (j + 1))) ≡ bit_xor x ((b + 256 * y) * 2 ^ (8 * j))
xor_next x b y j h =
    let below : b * 2 ^ (8 * j) < 2 ^ (8 * (j + 1)) = rw (power_next j) (mul-lt-mul_of_pos_right h (pow_pos (8 * j))) in
    let sum : y * 2 ^ (8 * (j + 1)) + b * 2 ^ (8 * j) ≡ (b + 256 * y) * 2 ^ (8 * j) = rw (power_next j) (omega arith) in
    xor_assoc x (b * 2 ^ (8 * j)) (y * 2 ^ (8 * (j + 1)))
    ∙ ap (bit_xor x) (xor_comm (b * 2 ^ (8 * j)) (y * 2 ^ (8 * (j + 1))) ∙ xor_shifted y (8 * (j + 1)) (b * 2 ^ (8 * j)) below ∙ sum)

-- a place past the last lane
xor_bytes_past : (s : List ℕ) (i : ℕ) (bs : List ℕ) → 8 * length s ≤ i → xor_bytes s i bs ≡ s
unfolding xor_bytes xor_byte
xor_bytes_past s i [] h = refl
xor_bytes_past s i (b ∷ bs) h =
    ap (λ (r : List ℕ). xor_bytes r (i + 1) bs) (set_out s (i / 8) (bit_xor (get_or s (i / 8) 0) (b * 2 ^ (8 * (i % 8)))) (omega arith))
    ∙ xor_bytes_past s (i + 1) bs (omega arith)

-- the bytes of one lane go in as their number
xor_bytes_inside : (s : List ℕ) (i : ℕ) (bs : List ℕ) → i < 8 * length s → i % 8 + length bs ≤ 8 → Bytes bs
    → xor_bytes s i bs ≡ set s (i / 8) (bit_xor (get_or s (i / 8) 0) (little bs * 2 ^ (8 * (i % 8))))
unfolding xor_bytes xor_byte little
xor_bytes_inside s i [] h g w = sym (simp (zero-mul, xor_zero_r) (set-get_or s (i / 8) 0))
xor_bytes_inside s i (b ∷ []) h g w = let alone : b + 256 * 0 ≡ b = omega arith in rw alone
xor_bytes_inside s i (b ∷ d ∷ bs) h g w =
    let k = i / 8 in
    let j = i % 8 in
    let x = get_or s k 0 in
    let y = bit_xor x (b * 2 ^ (8 * j)) in
    let same : (i + 1) / 8 ≡ k = omega arith in
    let next : (i + 1) % 8 ≡ j + 1 = omega arith in
    let rest = little (d ∷ bs) in
    xor_bytes_inside (set s k y) (i + 1) (d ∷ bs) (omega (arith, length-set s k y)) (omega arith) (λ n. w (suc n))
    ∙ simp (same, next, set-set, get_or-set_same s k y 0 (omega arith)) (ap (set s k) (xor_next x b rest j (w 0)))

pub xor_bytes_lane : (s : List ℕ) (i : ℕ) (bs : List ℕ) → i % 8 + length bs ≤ 8 → Bytes bs
    → xor_bytes s i bs ≡ set s (i / 8) (bit_xor (get_or s (i / 8) 0) (little bs * 2 ^ (8 * (i % 8))))
xor_bytes_lane s i bs g w =
    ⊎_elim
    (λ (h : 8 * length s - i ≡ 0).
    xor_bytes_past s i bs (omega arith)
    ∙ sym (set_out s (i / 8) (bit_xor (get_or s (i / 8) 0) (little bs * 2 ^ (8 * (i % 8)))) (omega arith)))
    (λ (h : 0 < 8 * length s - i). xor_bytes_inside s i bs (omega arith) g w)
    (eq-zero-or-pos (8 * length s - i))

xor_lanes_none : (s : List ℕ) → xor_lanes s (lanes_of (length s) []) ≡ s
unfolding xor_lanes lanes_of little
xor_lanes_none [] = refl
xor_lanes_none (x ∷ s) = ap (λ (y : ℕ). y ∷ xor_lanes s (lanes_of (length s) [])) (xor_zero_r x) ∙ ap (λ (r : List ℕ). x ∷ r) (xor_lanes_none s)

pub bytes_take : (n : ℕ) (m : List ℕ) → Bytes m → Bytes (take n m)
bytes_take zero m w i = omega arith
bytes_take (suc n) [] w i = omega arith
bytes_take (suc n) (b ∷ m) w zero = w 0
bytes_take (suc n) (b ∷ m) w (suc i) = bytes_take n m (λ j. w (suc j)) i

pub bytes_drop : (n : ℕ) (m : List ℕ) → Bytes m → Bytes (drop n m)
bytes_drop n m w i = rw get_or-drop (w (n + i))

pub bytes_append : (p q : List ℕ) → Bytes p → Bytes q → Bytes (p ++ q)
bytes_append [] q v w i = w i
bytes_append (b ∷ p) q v w zero = v 0
bytes_append (b ∷ p) q v w (suc i) = bytes_append p q (λ j. v (suc j)) w i

-- ---- bytes gathered into a number

-- byte i stands above the bytes before it
pub or_next : (x b i : ℕ) → x < 2 ^ (8 * i) → b < 256 → i < 8
    → (bit_or x (b * 2 ^ (8 * i) % 2 ^ 64) ≡ b * 2 ^ (8 * i) + x) × (bit_or x (b * 2 ^ (8 * i) % 2 ^ 64) < 2 ^ (8 * (i + 1)))
or_next x b i h g room =
    let sum : bit_or x (b * 2 ^ (8 * i) % 2 ^ 64) ≡ b * 2 ^ (8 * i) + x =
    ap (bit_or x) (shl_exact 8 (8 * i) 64 g (omega arith)) ∙ or_shifted_r b (8 * i) x h in
    (sum, rw (sum, power_next i) (digits_lt g h))

pub little_next : (x i : ℕ) (p : List ℕ) → i < length p
    → get_or p i 0 * 2 ^ (8 * i) + x + little (drop (i + 1) p) * 2 ^ (8 * (i + 1)) ≡ x + little (drop i p) * 2 ^ (8 * i)
unfolding little
little_next x i p h = rw (power_next i, drop-cons p i 0 h, add-one i) (omega arith)

pub little_lt : (p : List ℕ) → Bytes p → little p < 2 ^ (8 * length p)
unfolding little
little_lt [] w = omega arith
little_lt (b ∷ p) w =
    let power : 2 ^ (8 * suc (length p)) ≡ 256 * 2 ^ (8 * length p) = rw (← add-one (length p)) (power_next (length p)) in
    rw power (omega (arith, w 0, little_lt p (λ i. w (suc i))))

-- they go into a lane, shifted to their place
pub xor_bytes_gathered : (s : List ℕ) (i : ℕ) (p : List ℕ) → i % 8 + length p ≤ 8 → Bytes p
    → xor_bytes s i p ≡ set s (i / 8) (bit_xor (get_or s (i / 8) 0) (little p * 2 ^ (8 * (i % 8)) % 2 ^ 64))
xor_bytes_gathered s i p h w =
    xor_bytes_lane s i p h w
    ∙ ap (λ (y : ℕ). set s (i / 8) (bit_xor (get_or s (i / 8) 0) y)) (sym (shl_exact (8 * length p) (8 * (i % 8)) 64 (little_lt p w) (omega arith)))

-- ---- a string in parts

-- what is left of a string from place i on is its part up to e and what is left from there
pub cut : (p : List ℕ) (i e : ℕ) → i ≤ e → drop i p ≡ take (e - i) (drop i p) ++ drop e p
cut p i e h =
    let end : i + (e - i) ≡ e = omega arith in
    sym (take-append-drop (e - i) (drop i p))
    ∙ ap (λ (r : List ℕ). take (e - i) (drop i p) ++ r) (drop-drop (e - i) i p ∙ ap (λ (n : ℕ). drop n p) end)

pub xor_bytes_cut : (s : List ℕ) (at : ℕ) (p : List ℕ) (i e : ℕ) → i ≤ e → e ≤ length p
    → xor_bytes s (at + i) (drop i p) ≡ xor_bytes (xor_bytes s (at + i) (take (e - i) (drop i p))) (at + e) (drop e p)
xor_bytes_cut s at p i e h g =
    let part = take (e - i) (drop i p) in
    let place : at + i + length part ≡ at + e = omega (arith, length-between p i e g) in
    ap (xor_bytes s (at + i)) (cut p i e h)
    ∙ xor_bytes_append s (at + i) part (drop e p)
    ∙ ap (λ (n : ℕ). xor_bytes (xor_bytes s (at + i) part) n (drop e p)) place

-- a whole lane of a string, at a place that starts a lane
pub xor_bytes_whole : (s : List ℕ) (at k v : ℕ) (p : List ℕ) → at % 8 ≡ 0 → 8 * k + 8 ≤ length p → Bytes p
    → v ≡ little (take 8 (drop (8 * k) p))
    → xor_bytes (set s (at / 8 + k) (bit_xor (get_or s (at / 8 + k) 0) v)) (at + 8 * (k + 1)) (drop (8 * (k + 1)) p)
    ≡ xor_bytes s (at + 8 * k) (drop (8 * k) p)
xor_bytes_whole s at k v p start room w e =
    let i = 8 * k in
    let next : 8 * (k + 1) ≡ i + 8 = omega arith in
    let eight : i + 8 - i ≡ 8 = omega arith in
    let lane : (at + i) / 8 ≡ at / 8 + k = omega arith in
    let first : (at + i) % 8 ≡ 0 = omega arith in
    let one : little (take 8 (drop i p)) * 1 ≡ v = omega arith in
    let chunk = take 8 (drop i p) in
    let long : length chunk ≡ 8 = length-take-le 8 (drop i p) (omega (arith, length-drop i p)) in
    let put = xor_bytes_lane s (at + i) chunk (omega arith) (bytes_take 8 (drop i p) (bytes_drop i p w)) in
    rw next
    (ap (λ (r : List ℕ). xor_bytes r (at + (i + 8)) (drop (i + 8) p)) (sym (simp (lane, first, one) at put))
    ∙ sym (rw eight at (xor_bytes_cut s at p i (i + 8) (omega arith) room)))

-- where a string goes on after its first eight bytes, if it does
xor_bytes_next : (s : List ℕ) (k : ℕ) (p : List ℕ) → xor_bytes s (8 * k + length (take 8 p)) (drop 8 p) ≡ xor_bytes s (8 * (k + 1)) (drop 8 p)
unfolding xor_bytes
xor_bytes_next s k p =
    ⊎_elim
    (λ (h : 8 - length p ≡ 0).
    let place : 8 * k + length (take 8 p) ≡ 8 * (k + 1) = omega (arith, length-take 8 p) in
    ap (λ (n : ℕ). xor_bytes s n (drop 8 p)) place)
    (λ (h : 0 < 8 - length p). let none : drop 8 p ≡ [] = drop_of_length-le p {i = 8} (omega arith) in rw none)
    (eq-zero-or-pos (8 - length p))

-- a string that starts at a lane: byte by byte as lane by lane
xor_bytes_from : (done s : List ℕ) (k : ℕ) (p : List ℕ) → length done ≡ k → length p ≤ 8 * length s → Bytes p
    → xor_bytes (done ++ s) (8 * k) p ≡ done ++ xor_lanes s (lanes_of (length s) p)
unfolding xor_bytes xor_lanes lanes_of
xor_bytes_from done [] k [] e h w = refl
xor_bytes_from done [] k (b ∷ p) e h w = absurd (omega arith)
xor_bytes_from done (x ∷ s) k p e h w =
    let y = bit_xor x (little (take 8 p)) in
    let whole : 8 * k / 8 ≡ k = omega arith in
    let part : 8 * k % 8 ≡ 0 = omega arith in
    let one : little (take 8 p) * 1 ≡ little (take 8 p) = omega arith in
    let first : xor_bytes (done ++ x ∷ s) (8 * k) (take 8 p) ≡ done ++ y ∷ s =
    xor_bytes_lane (done ++ x ∷ s) (8 * k) (take 8 p) (omega (arith, length-take 8 p)) (bytes_take 8 p w)
    ∙ simp (whole, part, one, get_or_at done x s 0 k e, set_at done x s y k e) in
    let far : length (done ++ y ∷ []) ≡ k + 1 = omega (arith, length-append done (y ∷ [])) in
    ap (xor_bytes (done ++ x ∷ s) (8 * k)) (sym (take-append-drop 8 p))
    ∙ xor_bytes_append (done ++ x ∷ s) (8 * k) (take 8 p) (drop 8 p)
    ∙ ap (λ (r : List ℕ). xor_bytes r (8 * k + length (take 8 p)) (drop 8 p)) first
    ∙ xor_bytes_next (done ++ y ∷ s) k p
    ∙ ap (λ (r : List ℕ). xor_bytes r (8 * (k + 1)) (drop 8 p)) (sym (append_snoc done y s))
    ∙ xor_bytes_from (done ++ y ∷ []) s (k + 1) (drop 8 p) far (omega (arith, length-drop 8 p)) (bytes_drop 8 p w)
    ∙ append_snoc done y (xor_lanes s (lanes_of (length s) (drop 8 p)))

-- a block of 25 lanes, byte by byte
pub xor_bytes_block : (s p : List ℕ) → length s ≡ 25 → length p ≤ 200 → Bytes p → xor_bytes s 0 p ≡ xor_lanes s (lanes_of 25 p)
xor_bytes_block s p e h w = xor_bytes_from [] s 0 p refl (omega arith) w ∙ ap (λ (n : ℕ). xor_lanes s (lanes_of n p)) e
