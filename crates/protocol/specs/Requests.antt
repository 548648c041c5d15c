-- One request: the tables after it, its value, and its bill (document 01, "What one request does"; a clear: document 02, P6).
use Rattle.std.specs.Prelude.{ℕ}
use Rattle.protocol_types.specs.Board.{block_of, offset_of, slot}
use Rattle.protocol.specs.Tables.{Tables, word}
use Rattle.protocol.specs.Rules.{obtained, fetch_cycles, write_back_cycles, written, update_cycles, cleared, clear_cycles}
use Rattle.protocol_types.specs.declared.Setup.{Setup}
use Rattle.protocol_types.specs.declared.Request.{Request}
use Rattle.protocol_types.specs.declared.Operation.{Operation}
use Rattle.protocol_types.specs.declared.Operation.TheVariants.{Read, Write, Clear}
use Rattle.protocol_types.specs.declared.Bill.{Bill}

-- Each definition goes by the cases of the operation, and then is said of a request.

-- ---- what it does

-- the tables after processor i's operation
abbrev pub served_by : Setup → Tables → ℕ → Operation → Tables
served_by s t i (Read v) = obtained s t i (block_of s v)
served_by s t i (Write v x) = written s (obtained s t i (block_of s v)) i (block_of s v) (offset_of s v) x
served_by s t i Clear = cleared s t i s.lines

unfoldable pub served : Setup → Tables → Request → Tables
served s t q = served_by s t q.processor q.operation

-- rule 3: a read supplies the word; a write gives its own value, a clear 0
abbrev pub value_by : Setup → Tables → ℕ → Operation → ℕ
value_by s t i (Read v) = word s (obtained s t i (block_of s v)) (slot s i (block_of s v)) (offset_of s v)
value_by s t i (Write v x) = x
value_by s t i Clear = 0

unfoldable pub value : Setup → Tables → Request → ℕ
value s t q = value_by s t q.processor q.operation

-- the cycles charged: rules 1 and 2 for a read or a write, then rules 4 and 5; for a clear its write-backs
abbrev pub bill_by : Setup → Tables → ℕ → Operation → Bill
bill_by s t i (Read v) = record {
  fetch = fetch_cycles s t i (block_of s v);
  write_back = write_back_cycles s t i (block_of s v);
  update = 0;
}
bill_by s t i (Write v x) = record {
  fetch = fetch_cycles s t i (block_of s v);
  write_back = write_back_cycles s t i (block_of s v);
  update = update_cycles s (obtained s t i (block_of s v)) i (block_of s v);
}
bill_by s t i Clear = record { fetch = 0; write_back = clear_cycles s t i s.lines; update = 0 }

unfoldable pub bill : Setup → Tables → Request → Bill
bill s t q = bill_by s t q.processor q.operation
