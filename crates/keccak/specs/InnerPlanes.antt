-- How the code goes about a round: plane by plane, with six lanes kept complemented. Assumes nothing.
use Rattle.std.specs.Prelude.{◌≡◌, Bool, true, false, List, [], ◌∷◌, ℕ, ◌+◌, ◌*◌, ◌%◌, get_or, set, length}
use Rattle.std.specs.Int.Bits.{bit_and, bit_xor}
use Rattle.keccak.specs.Keccak.{lane, row, state, rotl, complement, offsets, theta, rho, pi, chi}

-- what a lane means that is complemented or not
abbrev pub shown : Bool → ℕ → ℕ
shown true a = complement a
shown false a = a

abbrev pub differing : Bool → Bool → Bool
differing true true = false
differing true false = true
differing false true = true
differing false false = false

-- Between rounds the lanes (1, 0), (2, 0), (3, 1), (2, 2), (2, 3) and (0, 4) are complemented, which spares all but five of
-- a round's complements. In θ's sums beside the columns it leaves those of the columns 0 and 3 complemented.
abbrev pub hidden : List Bool
hidden =
    false ∷ true ∷ true ∷ false ∷ false
    ∷ false ∷ false ∷ false ∷ true ∷ false
    ∷ false ∷ false ∷ true ∷ false ∷ false
    ∷ false ∷ false ∷ true ∷ false ∷ false
    ∷ true ∷ false ∷ false ∷ false ∷ false ∷ []

abbrev pub sided : List Bool
sided = true ∷ false ∷ false ∷ true ∷ false ∷ []

-- the state that such lanes stand for
unfoldable pub reveal : List ℕ → List ℕ
reveal s = state (λ x y. shown (get_or hidden (x + 5 * y) false) (lane s x y))

-- one plane of it
unfoldable pub reveal_row : ℕ → List ℕ → List ℕ
reveal_row y ls = row (λ x. shown (get_or hidden (x + 5 * y) false) (get_or ls x 0))

-- θ's sums from those that the code holds
unfoldable pub sided_row : List ℕ → List ℕ
sided_row ds = row (λ x. shown (get_or sided x false) (get_or ds x 0))

-- plane y after θ, ρ and π, from ρ's offsets, the five lanes that π brings there, and the sums beside their columns
unfoldable pub turned_row : List ℕ → ℕ → List ℕ → List ℕ → List ℕ
turned_row os y ls ds = row (λ x. rotl (bit_xor (get_or ls x 0) (get_or ds x 0)) (lane os (x + 3 * y) x))

-- χ on a plane
unfoldable pub chi_row : List ℕ → List ℕ
chi_row bs = row (λ x. bit_xor (get_or bs x 0) (bit_and (complement (get_or bs ((x + 1) % 5) 0)) (get_or bs ((x + 2) % 5) 0)))

-- plane y after χ, from the lanes s and the sums d
unfoldable pub plane_of : List ℕ → List ℕ → ℕ → List ℕ
plane_of s d y = chi_row (turned_row offsets y (row (λ x. lane s (x + 3 * y) x)) (row (λ x. get_or d ((x + 3 * y) % 5) 0)))

-- the same from the five lanes and sums as the code holds them
unfoldable pub held_plane : List ℕ → ℕ → List ℕ → List ℕ → List ℕ
held_plane os y ls ds =
    chi_row
    (turned_row os y (row (λ x. shown (get_or hidden ((x + 3 * y) % 5 + 5 * x) false) (get_or ls x 0)))
    (row (λ x. shown (get_or sided ((x + 3 * y) % 5) false) (get_or ds x 0))))

-- the first lane with a round's constant
unfoldable pub xored : ℕ → List ℕ → List ℕ
xored k s = set s 0 (bit_xor (lane s 0 0) k)

-- p is the parity of five lanes, whichever of them are complemented
pub record Parity (a b c d e p : ℕ) : Type 0 where
  pub by_flags : (f g h i j : Bool)
      → shown (differing (differing (differing (differing f g) h) i) j) p
      ≡ bit_xor (bit_xor (bit_xor (bit_xor (shown f a) (shown g b)) (shown h c)) (shown i d)) (shown j e)

-- d is θ's sum beside a column, from the parities of the columns before and after it, whichever of them are complemented
pub record Beside (before after d : ℕ) : Type 0 where
  pub by_flags : (f g : Bool) → shown (differing f g) d ≡ bit_xor (shown f before) (rotl (shown g after) 1)

-- t is s with the six lanes complemented, and so stands for the lanes of s
pub record Hidden (s t : List ℕ) : Type 0 where
  pub lanes : t ≡ reveal s
  pub meaning : reveal t ≡ state (lane s)

-- t stands for the state that a round with the constant k makes of the one that s stands for
pub record Round (k : ℕ) (s t : List ℕ) : Type 0 where
  pub size : length t ≡ 25
  pub meaning : reveal t ≡ xored k (chi (pi (rho (theta (reveal s)))))
