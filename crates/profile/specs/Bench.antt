-- Lines, and what reading them answers. The cases that document 01 marks as proved stand in crate `cases`.
-- Assumes nothing.
use Rattle.std.specs.Prelude.{◌≡◌, List, [], ◌∷◌, map, ℕ, zero, suc}
use Prim.Native.Char.{code}
use Prim.Native.String.{String, len, char_at}
use Rattle.outcome.specs.Result.{number_in}
use Rattle.profile.specs.Rules.{classes}
use Rattle.profile.specs.Line.{read_line}

-- the bytes of a text without accents, n of them from place i
abbrev pub bytes_from : String → ℕ → ℕ → List ℕ
bytes_from text i zero = []
bytes_from text i (suc n) = code (char_at text i) ∷ bytes_from text (suc i) n

abbrev pub bytes : String → List ℕ
bytes text = bytes_from text 0 (len text)

-- a line, and the number of the table "Returned"
pub record LineCase : Type 0 where
  pub line : String
  pub number : ℕ

abbrev pub answers : String → ℕ → LineCase
answers line number = record { line = line; number = number }

-- Two lines of document 01, the shortest and the longest, and three with a rate point, the shortest and the longest among them;
-- then, with 5, what breaks a rule: the tag, too few fields and too many for it, a lower-case country, the class against the volts,
-- a missing, a quoted and an added field, a leading zero, a plus, a minus where none may stand and none where one must, `-0`, the
-- serial past its range by one and by twenty digits, hertz, a delay, the rate and its delay on both sides of their ranges, no LF,
-- and bytes after it; with 1, a line too short and one too long.
abbrev pub line_cases : List LineCase
line_cases =
    answers "GP1,XA,B,12,230,50,1150,100,800,1500,1500,100,-2500,100\n" 0
    ∷ answers "GP1,XA,C,5,400,50,1100,200,850,1500,1500,100,-2500,100\n" 0
    ∷ answers "GP1,AA,A,1,100,50,1001,20,1,20,1,20,-1,20\n" 0
    ∷ answers "GP1,ZZ,D,4294967295,1000,60,1500,60000,999,60000,5000,60000,-5000,60000\n" 0
    ∷ answers "GP2,XA,B,13,230,50,1150,100,800,1500,1500,100,-2500,100,2000,500\n" 0
    ∷ answers "GP2,AA,A,1,100,50,1001,20,1,20,1,20,-1,20,100,20\n" 0
    ∷ answers "GP2,ZZ,D,4294967295,1000,60,1500,60000,999,60000,5000,60000,-5000,60000,10000,60000\n" 0
    ∷ answers "GP3,XA,B,12,230,50,1150,100,800,1500,1500,100,-2500,100\n" 5
    ∷ answers "GP2,XA,B,12,230,50,1150,100,800,1500,1500,100,-2500,100\n" 5
    ∷ answers "GP1,XA,B,13,230,50,1150,100,800,1500,1500,100,-2500,100,2000,500\n" 5
    ∷ answers "GP2,XA,B,13,230,50,1150,100,800,1500,1500,100,-2500,100,2000\n" 5
    ∷ answers "GP2,XA,B,13,230,50,1150,100,800,1500,1500,100,-2500,100,2000,500,1\n" 5
    ∷ answers "GP2,XA,B,13,230,50,1150,100,800,1500,1500,100,-2500,100,99,500\n" 5
    ∷ answers "GP2,XA,B,13,230,50,1150,100,800,1500,1500,100,-2500,100,10001,500\n" 5
    ∷ answers "GP2,XA,B,13,230,50,1150,100,800,1500,1500,100,-2500,100,-2000,500\n" 5
    ∷ answers "GP2,XA,B,13,230,50,1150,100,800,1500,1500,100,-2500,100,2000,19\n" 5
    ∷ answers "GP2,XA,B,13,230,50,1150,100,800,1500,1500,100,-2500,100,2000,60001\n" 5
    ∷ answers "GP1,Xa,B,12,230,50,1150,100,800,1500,1500,100,-2500,100\n" 5
    ∷ answers "GP1,XA,C,12,230,50,1150,100,800,1500,1500,100,-2500,100\n" 5
    ∷ answers "GP1,XA,B,,230,50,1150,100,800,1500,1500,100,-2500,100\n" 5
    ∷ answers "GP1,XA,B,\"12\",230,50,1150,100,800,1500,1500,100,-2500,100\n" 5
    ∷ answers "GP1,XA,B,12,230,50,1150,100,800,1500,1500,100,-2500,100,1\n" 5
    ∷ answers "GP1,XA,B,012,230,50,1150,100,800,1500,1500,100,-2500,100\n" 5
    ∷ answers "GP1,XA,B,+12,230,50,1150,100,800,1500,1500,100,-2500,100\n" 5
    ∷ answers "GP1,XA,B,12,230,50,1150,100,800,1500,-1500,100,-2500,100\n" 5
    ∷ answers "GP1,XA,B,12,230,50,1150,100,800,1500,1500,100,2500,100\n" 5
    ∷ answers "GP1,XA,B,12,230,50,1150,100,800,1500,1500,100,-0,100\n" 5
    ∷ answers "GP1,XA,B,4294967296,230,50,1150,100,800,1500,1500,100,-2500,100\n" 5
    ∷ answers "GP1,XA,B,10000000000000000000,230,50,1150,20,800,20,1500,20,-2500,20\n" 5
    ∷ answers "GP1,XA,B,12,230,55,1150,100,800,1500,1500,100,-2500,100\n" 5
    ∷ answers "GP1,XA,B,12,230,50,1150,60001,800,1500,1500,100,-2500,100\n" 5
    ∷ answers "GP1,XA,B,12,230,50,1150,100,800,1500,1500,100,-2500,100" 5
    ∷ answers "GP1,XA,B,12,230,50,1150,100,800,1500,1500,100,-2500,100\n\n" 5
    ∷ answers "GP1,AA,A,1,100,50,1001,20,1,20,1,20,-1,20" 1
    ∷ answers "GP1,ZZ,D,4294967295,1000,60,1500,60000,999,60000,5000,60000,-5000,60000\n\n" 5
    ∷ answers "GP2,ZZ,D,4294967295,1000,60,1500,60000,999,60000,5000,60000,-5000,60000,10000,60000\n\n" 1
    ∷ []

abbrev pub LineBench : Type 0
LineBench =
    map (λ (c : LineCase). number_in (read_line classes (bytes c.line))) line_cases ≡ map (λ (c : LineCase). c.number) line_cases
