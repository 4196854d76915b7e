-- The table of specs/Cases.antt, computed. Assumes nothing.
use mathlib.Core.Path.{refl}
use Rattle.outcome.specs.Lists.{same}
use Rattle.decimal.specs.Decimal.{decimal, last_digits, leading_digits, value_from, leading_number, after_number}
use Rattle.formula.specs.Grammar.{sum_value}
use Rattle.formula.specs.Reader.{
  read_number,
  chain,
  closed,
  atom_with,
  product_with,
  sum_with,
  read_group,
  read_short,
  read_formula,
  value_of,
}
use Rattle.words.specs.Words.{word_at}
use Rattle.profile.specs.Rules.{fields_of, obeys, valid}
use Rattle.profile.specs.Table.{rows_used, rows_from, table_of}
use Rattle.profile.specs.Line.{field_bytes, written, line_of, field_number, after_field, numbers_in, scanned, read_line}
use Rattle.evaluate.specs.Evaluate.{is_closed, fields, text_from, sound_text, plain_text}
use Rattle.evaluate.specs.Cases.{Cases}

pub worked_cases : Cases
unfolding same word_at rows_used rows_from table_of decimal last_digits leading_digits value_from leading_number after_number sum_value read_number chain closed atom_with product_with sum_with read_group read_short read_formula value_of fields_of obeys valid field_bytes written line_of field_number after_field numbers_in scanned read_line is_closed fields text_from sound_text plain_text
worked_cases = refl
