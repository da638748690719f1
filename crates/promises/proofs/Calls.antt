-- What a reader may rely on of each public call, proved: two answers that meet a promise `answer ≡ definition` are both the definition.
use mathlib.Core.Path.{◌≡◌, ◌∙◌, sym}
use lib.IntN.{ℤ}
use Rattle.fields.specs.declared.Value.{Value}
use Rattle.promises.specs.Calls.{ValueOfNumberRelied, ValueEqualsRelied, ValueIsBelowRelied, ValueIsNoneRelied, NumberWithinRelied}
use Rattle.promises.specs.Calls.{RefusalNumberRelied, StopNumberRelied, RefusalEqRelied}
use Rattle.promises.specs.Calls.{LimitOfRelied, AlgorithmOkRelied, CountOkRelied, XOkRelied, LineOkRelied, IndexOkRelied}
use Rattle.promises.specs.Calls.{ChoosingOkRelied, TokenOkRelied, PivotOkRelied, MayHoldRelied, CellOkRelied, XOfRelied}
use Rattle.promises.specs.Calls.{TokenOfRelied, PivotOfRelied, WellFormedRelied, FreshRelied, NextTokenRelied, GoesBeforeRelied}
use Rattle.promises.specs.Calls.{CoreEqRelied, RowEqRelied, TableEqRelied}
use Rattle.promises.specs.Calls.{StepRelied, RunRelied, WriteRelied, ReadRelied, ListRelied}

-- two answers that are both the definition's
same : {A : Type 0} {definition a b : A} → a ≡ definition → b ≡ definition → a ≡ b
same p q = p ∙ sym q

-- two values whose numbers are both the definition's
same_value : {number : ℤ} {a b : Value} → a.0 ≡ number → b.0 ≡ number → a ≡ b
same_value p q at = record { 0 = same p q at }

pub value_of_number_relied : ValueOfNumberRelied
value_of_number_relied = record { every_input = λ κs given. tt; one_answer = same_value }

pub value_equals_relied : ValueEqualsRelied
value_equals_relied = record { every_input = λ κs given. tt; one_answer = same }

pub value_is_below_relied : ValueIsBelowRelied
value_is_below_relied = record { every_input = λ κs given. tt; one_answer = same }

pub value_is_none_relied : ValueIsNoneRelied
value_is_none_relied = record { every_input = λ κs given. tt; one_answer = same }

pub refusal_number_relied : RefusalNumberRelied
refusal_number_relied = record { every_input = λ κs given. tt; one_answer = same }

pub stop_number_relied : StopNumberRelied
stop_number_relied = record { every_input = λ κs given. tt; one_answer = same }

pub refusal_eq_relied : RefusalEqRelied
refusal_eq_relied = record { every_input = λ κs given. tt; one_answer = same }

pub number_within_relied : NumberWithinRelied
number_within_relied = record { every_input = λ κs given. tt; one_answer = same }

pub limit_of_relied : LimitOfRelied
limit_of_relied = record { every_input = λ κs given. tt; one_answer = same_value }

pub algorithm_ok_relied : AlgorithmOkRelied
algorithm_ok_relied = record { every_input = λ κs given. tt; one_answer = same }

pub count_ok_relied : CountOkRelied
count_ok_relied = record { every_input = λ κs given. tt; one_answer = same }

pub x_ok_relied : XOkRelied
x_ok_relied = record { every_input = λ κs given. tt; one_answer = same }

pub line_ok_relied : LineOkRelied
line_ok_relied = record { every_input = λ κs given. tt; one_answer = same }

pub index_ok_relied : IndexOkRelied
index_ok_relied = record { every_input = λ κs given. tt; one_answer = same }

pub choosing_ok_relied : ChoosingOkRelied
choosing_ok_relied = record { every_input = λ κs given. tt; one_answer = same }

pub token_ok_relied : TokenOkRelied
token_ok_relied = record { every_input = λ κs given. tt; one_answer = same }

pub pivot_ok_relied : PivotOkRelied
pivot_ok_relied = record { every_input = λ κs given. tt; one_answer = same }

pub may_hold_relied : MayHoldRelied
may_hold_relied = record { every_input = λ κs given. tt; one_answer = same }

pub cell_ok_relied : CellOkRelied
cell_ok_relied = record { every_input = λ κs given. tt; one_answer = same }

pub core_eq_relied : CoreEqRelied
core_eq_relied = record { every_input = λ κs given. tt; one_answer = same }

pub row_eq_relied : RowEqRelied
row_eq_relied = record { every_input = λ κs given. tt; one_answer = same }

pub table_eq_relied : TableEqRelied
table_eq_relied = record { every_input = λ κs given. tt; one_answer = same }

pub x_of_relied : XOfRelied
x_of_relied = record { every_input = λ κs given. tt; one_answer = same_value }

pub token_of_relied : TokenOfRelied
token_of_relied = record { every_input = λ κs given. tt; one_answer = same_value }

pub pivot_of_relied : PivotOfRelied
pivot_of_relied = record { every_input = λ κs given. tt; one_answer = same_value }

pub well_formed_relied : WellFormedRelied
well_formed_relied = record { every_input = λ κs given. tt; one_answer = same }

pub fresh_relied : FreshRelied
fresh_relied = record { every_input = λ κs given. tt; one_answer = same }

pub next_token_relied : NextTokenRelied
next_token_relied = record { every_input = λ κs given. tt; one_answer = same }

pub goes_before_relied : GoesBeforeRelied
goes_before_relied = record { every_input = λ κs given. tt; one_answer = same }

pub step_relied : StepRelied
step_relied = record { every_input = λ κs given. tt; one_answer = same }

pub run_relied : RunRelied
run_relied = record {
  answers = record { every_input = λ κs given. tt; one_answer = λ p q. same p.0 q.0 };
  one_buffer = λ p q. same p.1 q.1;
}

pub write_relied : WriteRelied
write_relied = record {
  answers = record { every_input = λ κs given. tt; one_answer = λ p q. same p.0 q.0 };
  one_buffer = λ p q. same p.1 q.1;
}

pub read_relied : ReadRelied
read_relied = record { every_input = λ κs given. tt; one_answer = same }

pub list_relied : ListRelied
list_relied = record {
  answers = record { every_input = λ κs given. tt; one_answer = λ p q. same p.0.0 q.0.0 };
  one_buffer = λ p q. same p.1 q.1;
}
