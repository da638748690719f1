-- Room for the longest text, which the private functions ask to be left: a line for each byte of the schedule, and the first and last line.
use Rattle.std.specs.Prelude.{ℕ, ◌+◌, ◌*◌}
use Rattle.fields.specs.Numbers.{schedule_limit}

-- a line of an entry: a word of six bytes, the three digits of a byte at most, and the line feed
abbrev pub entry_room : ℕ
entry_room = 10

-- the first and the last line: words of less than fifty bytes, and seven numbers of twenty digits at most
abbrev pub rest_room : ℕ
rest_room = 200

abbrev pub room : ℕ
room = schedule_limit * entry_room + rest_room
