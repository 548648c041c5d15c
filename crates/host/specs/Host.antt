-- The version of the host entries, and the records of the specification from a host's plain numbers.
use Rattle.std.specs.Prelude.{ℕ}
use Rattle.protocol.specs.Tables.{Tables}
use Rattle.protocol_types.specs.declared.Setup.{Setup}
use Rattle.protocol_types.specs.declared.Block.{Block}
use Rattle.protocol_types.specs.declared.Account.{Account}
use Rattle.trace_lines.specs.Trace.{Ended}

-- it counts the changes of the exported functions' signatures and meanings, and the functions that are added, from 1 on
abbrev pub host_version : ℕ
host_version = 6

-- n processors, l lines in each cache, p words in a block, m blocks, fetch price f, write-back price g
abbrev pub setup_of : ℕ → ℕ → ℕ → ℕ → ℕ → ℕ → Setup
setup_of n l p m f g = record { processors = n; lines = l; words = p; blocks = m; fetch_price = f; write_back_price = g }

-- the block of this number: protocol's blockOf is that of a variable
abbrev pub block_numbered : ℕ → Block
block_numbered b = record { 0 = b }

-- refusal r at line n
abbrev pub report_of : Account → ℕ → ℕ → Tables → Ended
report_of a r n t = record { report = record { account = a; refusal = r; line = n }; tables = t }
