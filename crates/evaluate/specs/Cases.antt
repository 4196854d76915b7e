-- Worked cases of formulas and of lines with formulas (document 02, M-107), also under a customer's own classes (M-108), in one
-- table: what is run, and what it must give. An outcome goes through the definitions that the contract cites. The proof stands
-- in proofs/Cases.antt.
-- Assumes nothing.
use Rattle.std.specs.Prelude.{◌≡◌, List, [], ◌∷◌, ◌++◌, map, ℕ, ◌*◌, eqb, replicate, ℤ, pos, negsuc}
use Prim.Native.String.{String}
use Rattle.outcome.specs.Answer.{first_refusal, pick, number_of}
use Rattle.outcome.specs.Result.{Result, Ok, Err}
use Rattle.words.specs.Words.{word}
use Rattle.formula.specs.Reader.{value_of}
use Rattle.profile.specs.Table.{row_size, table_size, table_of}
use Rattle.profile.specs.Line.{longest}
use Rattle.profile.specs.Bench.{bytes}
use Rattle.evaluate.specs.Evaluate.{text_in, plain_line, evaluate_checks}

-- ---- tables

-- the image without rows, which means the built-in classes
abbrev pub built_in : List ℕ
built_in = replicate table_size 0

-- two rows, with a gap between: E from 200 to 300 and R from 600 to 900 volts
abbrev pub railway : List ℕ
railway =
    word 2
    ++ (word 69 ++ (word 200 ++ (word 300 ++ (word 82 ++ (word 600 ++ (word 900 ++ replicate (24 * row_size) 0))))))

-- ---- what is run

pub data Run : Type 0 where
  -- a field, at 230 nominal volts
  field : String → Run
  -- a whole input, under the built-in classes
  line : String → Run
  -- a whole input, under the table of an image
  under : List ℕ → String → Run
  -- an input whose first limit is a number of so many digits
  digits : ℕ → Run

-- ---- what it gives

pub data Outcome : Type 0 where
  -- a field is worth this number, or refused with one of the table "Returned"
  worth : ℤ → Outcome
  refuses : ℕ → Outcome
  -- of an input the line is written, or it is answered with a number
  writes_bytes : List ℕ → Outcome
  answers : ℕ → Outcome

abbrev pub writes : String → Outcome
writes text = writes_bytes (bytes text)

abbrev pub worth_in : Result ℤ → Outcome
worth_in (Ok z) = worth z
worth_in (Err r) = refuses (number_of r)

-- an input under the table of an image
abbrev pub written : List ℕ → List ℕ → Outcome
written table input =
    let number : ℕ = first_refusal (evaluate_checks table input (replicate longest 0)) in
    pick (eqb number 0) (writes_bytes (text_in (plain_line (table_of table) input))) (answers number)

abbrev pub outcome : Run → Outcome
outcome (field text) = worth_in (value_of 230 (bytes text))
outcome (line text) = written built_in (bytes text)
outcome (under table text) = written table (bytes text)
outcome (digits n) =
    written built_in (bytes "GP1,XA,B,14,230,50," ++ (replicate n 49 ++ bytes ",100,800,1500,1500,100,-2500,100\n"))

-- ---- the table

pub record Case : Type 0 where
  pub run : Run
  pub gives : Outcome

infix 90 ◌gives◌
abbrev pub ◌gives◌ : Run → Outcome → Case
run gives outcome = record { run = run; gives = outcome }

abbrev pub field_cases : List Case
field_cases =
    field "N*115/100-4" gives worth (pos 260)
    ∷ field "N" gives worth (pos 230)
    ∷ field "0" gives worth (pos 0)
    ∷ field "2+3*4" gives worth (pos 14)
    ∷ field "(2+3)*4" gives worth (pos 20)
    ∷ field "10-4-3" gives worth (pos 3)
    ∷ field "100/10/5" gives worth (pos 2)
    ∷ field "7/2*2" gives worth (pos 6)
    ∷ field "(0-7)/2" gives worth (negsuc 2)
    ∷ field "7/(0-2)" gives worth (negsuc 2)
    ∷ field "(0-7)/(0-2)" gives worth (pos 3)
    ∷ field "-5" gives worth (negsuc 4)
    ∷ field "-1000000" gives worth (negsuc 999999)
    ∷ field "-1000001" gives refuses 11
    ∷ field "-0" gives refuses 11
    ∷ field "-05" gives refuses 11
    ∷ field "-N" gives refuses 11
    ∷ field "(-5)" gives refuses 11
    ∷ field "-5+1" gives refuses 11
    ∷ field "((((((((1))))))))" gives worth (pos 1)
    ∷ field "(((((((((1)))))))))" gives refuses 11
    ∷ field "1000000" gives worth (pos 1000000)
    ∷ field "1000001" gives refuses 11
    ∷ field "4294967296" gives refuses 11
    ∷ field "007" gives refuses 11
    ∷ field "00" gives refuses 11
    ∷ field "" gives refuses 11
    ∷ field "1+" gives refuses 11
    ∷ field "+1" gives refuses 11
    ∷ field "2*-3" gives refuses 11
    ∷ field "(1" gives refuses 11
    ∷ field "1)" gives refuses 11
    ∷ field "()" gives refuses 11
    ∷ field "n" gives refuses 11
    ∷ field "2N" gives refuses 11
    ∷ field "1 + 1" gives refuses 11
    ∷ field "10+1+1+1+1+1+1+1+1+1+1+1+1+1+1+1+1+1+1+1+1+1+1+1+1+1+1+1+1+1+1+1" gives worth (pos 41)
    ∷ field "100+1+1+1+1+1+1+1+1+1+1+1+1+1+1+1+1+1+1+1+1+1+1+1+1+1+1+1+1+1+1+1" gives refuses 11
    ∷ field "1/0" gives refuses 12
    ∷ field "1/(N-230)" gives refuses 12
    ∷ field "1/0+" gives refuses 11
    ∷ field "1000000*2000" gives worth (pos 2000000000)
    ∷ field "1000000*2000+1" gives refuses 12
    ∷ field "(0-1000000)*2000" gives worth (negsuc 1999999999)
    ∷ field "(0-1000000)*2000-1" gives refuses 12
    ∷ field "1000000*2001/1000" gives refuses 12
    ∷ field "1/0-1/0" gives refuses 12
    ∷ []

-- the second limit below the first, the rate, the tests of the other fields before a formula, the LF, the last test; and inputs
-- of 400 and 401 bytes
abbrev pub line_cases : List Case
line_cases =
    line "GP1,XA,B,14,230,50,(N+23)*1000/N+50,100,N*80/100+616,1500,50*30,100,0-50*50,100\n"
    gives writes "GP1,XA,B,14,230,50,1150,100,800,1500,1500,100,-2500,100\n"
    ∷ line "GP1,XA,B,14,230,50,1150,100,800,1500,1500,100,-2500,100\n"
    gives writes "GP1,XA,B,14,230,50,1150,100,800,1500,1500,100,-2500,100\n"
    ∷ line "GP2,XA,B,13,230,50,1150,100,800,1500,1500,100,-2500,100,2000,500\n"
    gives writes "GP2,XA,B,13,230,50,1150,100,800,1500,1500,100,-2500,100,2000,500\n"
    ∷ line "GP2,XA,B,13,230,50,1150,100,800,1500,1500,100,-2500,100,N*10-300,500\n"
    gives writes "GP2,XA,B,13,230,50,1150,100,800,1500,1500,100,-2500,100,2000,500\n"
    ∷ line "GP1,XA,B,14,230,50,1/0,100,,1500,1500,100,-2500,100\n" gives answers 12
    ∷ line "GP1,XA,B,14,230,50,,100,1/0,1500,1500,100,-2500,100\n" gives answers 11
    ∷ line "GP1,XA,B,14,230,50,1150,100,800,1500,1/0,100,2500(,100\n" gives answers 12
    ∷ line "GP2,XA,B,13,230,50,1150,100,800,1500,1500,100,-2500,100,1/0,500\n" gives answers 12
    ∷ line "GP2,XA,B,13,230,50,1150,100,800,1500,1500,100,-2500,100,1/0+,500\n" gives answers 11
    ∷ line "GP1,XA,B,14,230,50,1/0,19,800,1500,1500,100,-2500,100\n" gives answers 5
    ∷ line "GP1,XA,C,14,230,50,1/0,100,800,1500,1500,100,-2500,100\n" gives answers 5
    ∷ line "GP3,XA,B,14,230,50,1/0,100,800,1500,1500,100,-2500,100\n" gives answers 5
    ∷ line "GP2,XA,B,14,230,50,1/0,100,800,1500,1500,100,-2500,100\n" gives answers 5
    ∷ line "GP1,XA,B,14,230,50,1/0,100,800,1500,1500,100,-2500,100,2000,500\n" gives answers 5
    ∷ line "GP1,XA,B,14,230,50,1/0,100,800,1500,1500,100,-2500,100" gives answers 5
    ∷ line "GP1,XA,B,14,230,50,1/0,100,800,1500,1500,100,-2500,100\n\n" gives answers 5
    ∷ line "GP1,XA,B,14,230,50,1\n/0,100,800,1500,1500,100,-2500,100\n" gives answers 5
    ∷ line "GP1,XA,B,14,230,50,1/0,100,800,1500,1500,100,-2500,100\r\n" gives answers 5
    ∷ line "" gives answers 5
    ∷ line "GP1,XA,B,14,230,50,N,100,800,1500,1500,100,-2500,100\n" gives answers 5
    ∷ line "GP1,XA,B,14,230,50,1000,100,800,1500,1500,100,-2500,100\n" gives answers 5
    ∷ line "GP1,XA,B,14,230,50,1000+1,100,800,1500,1500,100,-2500,100\n"
    gives writes "GP1,XA,B,14,230,50,1001,100,800,1500,1500,100,-2500,100\n"
    ∷ line "GP1,XA,B,14,230,50,1150,100,800,1500,1500,100,0,100\n" gives answers 5
    ∷ line "GP1,XA,B,14,230,50,1150,100,800,1500,1500,100,0-1,100\n"
    gives writes "GP1,XA,B,14,230,50,1150,100,800,1500,1500,100,-1,100\n"
    ∷ line "GP2,XA,B,13,230,50,1150,100,800,1500,1500,100,-2500,100,99,500\n" gives answers 5
    ∷ digits 348 gives answers 11
    ∷ digits 349 gives answers 1
    ∷ digits 3 gives answers 5
    ∷ []

-- under two rows: the letter of the volts, a letter of the built-in classes, volts in the gap, the other row; and an image that
-- lacks a byte
abbrev pub table_cases : List Case
table_cases =
    under railway "GP1,XA,E,14,230,50,(N+23)*1000/N+50,100,800,1500,1500,100,-2500,100\n"
    gives writes "GP1,XA,E,14,230,50,1150,100,800,1500,1500,100,-2500,100\n"
    ∷ under railway "GP1,XA,B,14,230,50,1150,100,800,1500,1500,100,-2500,100\n" gives answers 5
    ∷ under railway "GP1,XA,E,14,400,50,1/0,100,800,1500,1500,100,-2500,100\n" gives answers 5
    ∷ under railway "GP1,XA,R,14,750,50,N+400,100,800,1500,1500,100,-2500,100\n"
    gives writes "GP1,XA,R,14,750,50,1150,100,800,1500,1500,100,-2500,100\n"
    ∷ under (replicate 315 0) "GP1,XA,B,14,230,50,1150,100,800,1500,1500,100,-2500,100\n" gives answers 1
    ∷ []

abbrev pub cases : List Case
cases = field_cases ++ (line_cases ++ table_cases)

abbrev pub Cases : Type 0
Cases = map (λ (c : Case). outcome c.run) cases ≡ map (λ (c : Case). c.gives) cases
