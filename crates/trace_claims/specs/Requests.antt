-- The requests of a trace: those of its lines before the first one that 6 or 7 refuses.
use Rattle.std.specs.Prelude.{ℕ, ◌+◌, cond, Result, Ok, Err, List, [], ◌∷◌, ◌++◌, eqb}
use Rattle.protocol_types.specs.Refusals.{no_refusal, number, first_of}
use Rattle.protocol_types.specs.declared.Refusal.{Refusal}
use Rattle.protocol_types.specs.declared.Request.{Request}
use Rattle.trace_din.specs.Lines.{lines_of, parsed}
use Rattle.trace_lines.specs.Trace.{interpreted}

-- ---- a line

-- 6 and 7 alone
abbrev pub form_refusal : Result Request Refusal → ℕ
form_refusal (Err r) = number r
form_refusal (Ok q) = no_refusal

-- its request, if it has one
abbrev pub line_requests : Result Request Refusal → List Request
line_requests (Err r) = []
line_requests (Ok q) = q ∷ []

-- ---- a trace, from line n on

abbrev pub requests_from : ℕ → List (List ℕ) → List Request
requests_from n [] = []
requests_from n (l ∷ ls) =
    cond (eqb (form_refusal (interpreted n (parsed l))) no_refusal) (line_requests (interpreted n (parsed l)) ++ requests_from (n + 1) ls) []

unfoldable pub trace_requests : List ℕ → List Request
trace_requests bs = requests_from 1 (lines_of bs)

-- the first refusal by 6 or 7
abbrev pub form_refusal_from : ℕ → List (List ℕ) → ℕ
form_refusal_from n [] = no_refusal
form_refusal_from n (l ∷ ls) = first_of (form_refusal (interpreted n (parsed l))) (form_refusal_from (n + 1) ls)

unfoldable pub form_refusal_of : List ℕ → ℕ
form_refusal_of bs = form_refusal_from 1 (lines_of bs)
