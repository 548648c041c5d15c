-- Where the parts of a line end in the bytes that it lies in, as the code finds them.
use Rattle.std.specs.Prelude.{ℕ, ◌+◌, ◌≡◌, Bool, List, length, drop}
use Rattle.trace_din.specs.Lines.{is_text, is_hex, leading, addressed, parsed}
use Rattle.trace_din.specs.Digits.{shifted_all}
use Rattle.trace_din.specs.declared.Address.{Address}
use Rattle.trace_din.specs.declared.FirstLine.{FirstLine}

-- from place i of the bytes l on, the leading ones that pass end at place e
abbrev pub EndsAt : (ℕ → Bool) → List ℕ → ℕ → ℕ → Type 0
EndsAt P l i e = e ≡ i + length (leading P (drop i l))

-- r is the address that starts at place i: where its digits end, and the low 32 bits of their number
pub record AddressAt (l : List ℕ) (i : ℕ) (r : Address) : Type 0 where
  pub end : EndsAt is_hex l i r.end
  pub number : r.number ≡ shifted_all 0 (leading is_hex (drop i l))

-- r is the rest of a line of label d from its address at place i on: where the line ends, and what it is if it is not too wide
pub record RestAt (d : ℕ) (l : List ℕ) (i : ℕ) (r : FirstLine) : Type 0 where
  pub end : EndsAt is_text l i r.end
  pub parsed : r.parsed ≡ addressed d (leading is_text (drop i l))

-- r is the first line: where it ends, and what it is
pub record FirstOf (l : List ℕ) (r : FirstLine) : Type 0 where
  pub end : r.end ≡ length (leading is_text l)
  pub parsed : r.parsed ≡ parsed (leading is_text l)
