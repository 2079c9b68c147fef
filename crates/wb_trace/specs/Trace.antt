-- A trace: what happens at its lines.
use Rattle.std.specs.Prelude.{ℕ, List, [], ◌∷◌, ◌++◌, Option, Some, None}
use Rattle.wb_messages.specs.Happening.{Happening}
use Rattle.wb_trace.specs.TraceLines.{line_events}

-- the bytes that a trace may have
abbrev pub trace_limit : ℕ
trace_limit = 1048576

-- both lists, where both are there
abbrev pub both : Option (List Happening) → Option (List Happening) → Option (List Happening)
both None more = None
both (Some es) None = None
both (Some es) (Some more) = Some (es ++ more)

-- what happens at lines, the first first; none where one isn't understood
abbrev pub trace_events : List (List ℕ) → Option (List Happening)
trace_events [] = Some []
trace_events (l ∷ ls) = both (line_events l) (trace_events ls)
