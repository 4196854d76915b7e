-- What images are to what they mean. The proofs stand in proofs/Theorems.antt.
-- Assumes nothing.
use Rattle.std.specs.Prelude.{◌≡◌, List, ℕ, ◌<◌, T, get_or}
use Rattle.profile.specs.declared.Profile.{Profile}
use Rattle.outcome.specs.Result.{Ok}
use Rattle.profile.specs.Rules.{Class, valid}
use Rattle.profile.specs.Line.{line_of, read_line}
use Rattle.image.specs.Image.{profile_of, image_of, Fits}

-- the image of a profile means the profile
abbrev pub ProfileAgain : Type 0
ProfileAgain = (p : Profile) → Fits p → profile_of (image_of p) ≡ p

-- every image of bytes means a profile that fits; so reading, writing and reading again gives the same profile
abbrev pub ImageFits : Type 0
ImageFits = (image : List ℕ) → ((i : ℕ) → get_or image i 0 < 256) → Fits (profile_of image)

-- every profile that is valid under a table fits; so a line that is read into an image is written from it again
abbrev pub ValidFits : Type 0
ValidFits = (table : List Class) (p : Profile) → T (valid table p) → Fits p

abbrev pub LineAgain : Type 0
LineAgain =
    (table : List Class) (line : List ℕ) (p : Profile) → read_line table line ≡ Ok p
    → line_of (profile_of (image_of p)) ≡ line
