-- Traces and what is reported of them, as one table. proofs/Cases proves that every row passes.
use Rattle.std.specs.Prelude.{ℕ, Bool, true, ◌&&◌, cond, List, [], ◌∷◌, ◌++◌, replicate, eqb}
use Rattle.protocol_types.specs.Lists.{at}
use Rattle.protocol.specs.Tables.{Tables, tables}
use Rattle.protocol.specs.Sessions.{usual, account, copy, holding, same_account, same_tables}
use Rattle.trace_lines.specs.Trace.{Ended, ended, ended_on}
use Rattle.trace_lines.specs.declared.ReportNumbers.{ReportNumbers}

-- the bytes of a trace, the six numbers that are reported, and the first word of processor 0's first line afterwards
pub record Case : Type 0 where
  pub bytes : List ℕ
  pub report : ReportNumbers
  pub word : ℕ

pub data Row : Type 0 where
  case : Case → Row
  -- the trace "1 0\n" over lent tables of sevens, as many in each (block numbers, counters, dirty marks, words, memory), and the refusal
  lent_case : ℕ → ℕ → ℕ → ℕ → ℕ → ℕ → Row

abbrev pub row : List ℕ → ℕ → ℕ → ℕ → ℕ → ℕ → ℕ → ℕ → Row
row bs n f w u r l x = case (record {
  bytes = bs;
  report = record { account = record { requests = n; fetch = f; write_back = w; update = u }; refusal = r; line = l };
  word = x;
})

abbrev pub same_report : ReportNumbers → ReportNumbers → Bool
same_report a c = same_account a.account c.account && eqb a.refusal c.refusal && eqb a.line c.line

abbrev pub case_passes : Case → Bool
case_passes c =
    let e : Ended = ended c.bytes in
    same_report e.report c.report && eqb (at e.tables.words 0) c.word

abbrev pub sevens : ℕ → ℕ → ℕ → ℕ → ℕ → Tables
sevens b c m w y = tables (replicate b 7) (replicate c 7) (replicate m 7) (replicate w 7) (replicate y 7)

-- refused by 2, the tables stay, and nothing is counted
abbrev pub lent_passes : Tables → ℕ → Bool
lent_passes t n =
    let e : Ended = ended_on t (49 ∷ 32 ∷ 48 ∷ 10 ∷ []) in
    let taken : Bool = eqb n 0 in
    same_report e.report (record { account = cond taken (account 1 4 0 0) (account 0 0 0 0); refusal = n; line = 0 })
    && same_tables e.tables (cond taken (holding usual (copy 0 0 4 1 (1 ∷ 0 ∷ 0 ∷ 0 ∷ []) ∷ []) []) t)

abbrev pub passes : Row → Bool
passes (case c) = case_passes c
passes (lent_case b c m w y n) = lent_passes (sevens b c m w y) n

abbrev pub every_row : List Row → Bool
every_row [] = true
every_row (r ∷ rs) = passes r && every_row rs

-- "0 0 " and n bytes of ignored text
abbrev pub wide : ℕ → List ℕ
wide n = (48 ∷ 32 ∷ 48 ∷ 32 ∷ []) ++ replicate n 120

-- in the order of the columns: bytes; requests, fetch, write-back, update, refusal, line; word
unfoldable pub rows : List Row
rows =
    -- the printed case: "0 00000000\n0 01000000\n1 00000000\n1 4\n"
    row (48 ∷ 32 ∷ 48 ∷ 48 ∷ 48 ∷ 48 ∷ 48 ∷ 48 ∷ 48 ∷ 48 ∷ 10 ∷ 48 ∷ 32 ∷ 48 ∷ 49 ∷ 48 ∷ 48 ∷ 48 ∷ 48 ∷ 48 ∷ 48 ∷ 10 ∷ 49 ∷ 32 ∷ 48 ∷ 48 ∷ 48 ∷ 48 ∷ 48 ∷ 48 ∷ 48 ∷ 48 ∷ 10 ∷ 49 ∷ 32 ∷ 52 ∷ 10 ∷ []) 4 8 0 2 0 0 3 ∷
    -- no byte, no line: ""
    row ([]) 0 0 0 0 0 0 0 ∷
    -- a last line may lack its newline: "0 0\n1 0"
    row (48 ∷ 32 ∷ 48 ∷ 10 ∷ 49 ∷ 32 ∷ 48 ∷ []) 2 4 0 0 0 0 2 ∷
    -- the value written is the line number, from 1: "1 0\n1 0\n1 0\n"
    row (49 ∷ 32 ∷ 48 ∷ 10 ∷ 49 ∷ 32 ∷ 48 ∷ 10 ∷ 49 ∷ 32 ∷ 48 ∷ 10 ∷ []) 3 4 0 0 0 0 3 ∷
    -- label 2 reads: "1 0\n2 0\n"
    row (49 ∷ 32 ∷ 48 ∷ 10 ∷ 50 ∷ 32 ∷ 48 ∷ 10 ∷ []) 2 4 0 0 0 0 1 ∷
    -- a carriage return, a tab and ignored text: "1\t 0\r\n1 \t0 x\n1 0\t\n"
    row (49 ∷ 9 ∷ 32 ∷ 48 ∷ 13 ∷ 10 ∷ 49 ∷ 32 ∷ 9 ∷ 48 ∷ 32 ∷ 120 ∷ 10 ∷ 49 ∷ 32 ∷ 48 ∷ 9 ∷ 10 ∷ []) 3 4 0 0 0 0 3 ∷
    -- digits of either case, the processor in the top byte: "0 10000aB\n0 10000Ab\n"
    row (48 ∷ 32 ∷ 49 ∷ 48 ∷ 48 ∷ 48 ∷ 48 ∷ 97 ∷ 66 ∷ 10 ∷ 48 ∷ 32 ∷ 49 ∷ 48 ∷ 48 ∷ 48 ∷ 48 ∷ 65 ∷ 98 ∷ 10 ∷ []) 2 4 0 0 0 0 0 ∷
    -- variable 255 is taken: "0 3Ff\n"
    row (48 ∷ 32 ∷ 51 ∷ 70 ∷ 102 ∷ 10 ∷ []) 1 4 0 0 0 0 0 ∷
    -- variable 256 gives 4: "1 0\n0 400\n"
    row (49 ∷ 32 ∷ 48 ∷ 10 ∷ 48 ∷ 32 ∷ 52 ∷ 48 ∷ 48 ∷ 10 ∷ []) 1 4 0 0 4 2 1 ∷
    -- processor 3 is taken: "0 3000000\n"
    row (48 ∷ 32 ∷ 51 ∷ 48 ∷ 48 ∷ 48 ∷ 48 ∷ 48 ∷ 48 ∷ 10 ∷ []) 1 4 0 0 0 0 0 ∷
    -- 3 before 4: "0 4000400\n"
    row (48 ∷ 32 ∷ 52 ∷ 48 ∷ 48 ∷ 48 ∷ 52 ∷ 48 ∷ 48 ∷ 10 ∷ []) 0 0 0 0 3 1 0 ∷
    -- 7 before 3: "3 4000000\n"
    row (51 ∷ 32 ∷ 52 ∷ 48 ∷ 48 ∷ 48 ∷ 48 ∷ 48 ∷ 48 ∷ 10 ∷ []) 0 0 0 0 7 1 0 ∷
    -- 6 before 7: "9 0x\n"
    row (57 ∷ 32 ∷ 48 ∷ 120 ∷ 10 ∷ []) 0 0 0 0 6 1 0 ∷
    -- an empty line is malformed: "0 0\n\n0 0\n"
    row (48 ∷ 32 ∷ 48 ∷ 10 ∷ 10 ∷ 48 ∷ 32 ∷ 48 ∷ 10 ∷ []) 1 4 0 0 6 2 0 ∷
    -- no blank before the address: "00\n"
    row (48 ∷ 48 ∷ 10 ∷ []) 0 0 0 0 6 1 0 ∷
    -- a blank before the label: " 0 0\n"
    row (32 ∷ 48 ∷ 32 ∷ 48 ∷ 10 ∷ []) 0 0 0 0 6 1 0 ∷
    -- no address: "0 \n"
    row (48 ∷ 32 ∷ 10 ∷ []) 0 0 0 0 6 1 0 ∷
    -- 8 digits, then 9: "0 00000000\n0 000000000\n"
    row (48 ∷ 32 ∷ 48 ∷ 48 ∷ 48 ∷ 48 ∷ 48 ∷ 48 ∷ 48 ∷ 48 ∷ 10 ∷ 48 ∷ 32 ∷ 48 ∷ 48 ∷ 48 ∷ 48 ∷ 48 ∷ 48 ∷ 48 ∷ 48 ∷ 48 ∷ 10 ∷ []) 1 4 0 0 6 2 0 ∷
    -- the first refused line stops the trace: "0 0\n7 0\n0 20\n"
    row (48 ∷ 32 ∷ 48 ∷ 10 ∷ 55 ∷ 32 ∷ 48 ∷ 10 ∷ 48 ∷ 32 ∷ 50 ∷ 48 ∷ 10 ∷ []) 1 4 0 0 7 2 0 ∷
    -- a marked block is written back: "1 0\n0 80\n"
    row (49 ∷ 32 ∷ 48 ∷ 10 ∷ 48 ∷ 32 ∷ 56 ∷ 48 ∷ 10 ∷ []) 2 8 4 0 0 0 0 ∷
    -- 80 bytes are taken
    row (wide 76) 1 4 0 0 0 0 0 ∷
    -- 81 are not, whatever the label
    row (wide 77) 0 0 0 0 6 1 0 ∷
    -- bits 16 to 23 of an address count: variable 2,097,152 gives 4
    row (48 ∷ 32 ∷ 48 ∷ 48 ∷ 56 ∷ 48 ∷ 48 ∷ 48 ∷ 48 ∷ 48 ∷ 10 ∷ []) 0 0 0 0 4 1 0 ∷
    -- the top byte is the processor, all 8 bits of it: 128 gives 3
    row (48 ∷ 32 ∷ 56 ∷ 48 ∷ 48 ∷ 48 ∷ 48 ∷ 48 ∷ 48 ∷ 48 ∷ 10 ∷ []) 0 0 0 0 3 1 0 ∷
    -- 8 lines: blocks 0 and 4 stand side by side
    row (48 ∷ 32 ∷ 48 ∷ 10 ∷ 48 ∷ 32 ∷ 52 ∷ 48 ∷ 10 ∷ 48 ∷ 32 ∷ 48 ∷ 10 ∷ []) 3 8 0 0 0 0 0 ∷
    -- a label is one digit
    row (48 ∷ 48 ∷ 32 ∷ 48 ∷ 10 ∷ []) 0 0 0 0 6 1 0 ∷
    -- byte 47 is neither a digit nor a gap
    row (48 ∷ 32 ∷ 48 ∷ 47 ∷ 10 ∷ []) 0 0 0 0 6 1 0 ∷
    -- byte 58 is neither a digit nor a gap
    row (48 ∷ 32 ∷ 48 ∷ 58 ∷ 10 ∷ []) 0 0 0 0 6 1 0 ∷
    -- byte 64 is neither a digit nor a gap
    row (48 ∷ 32 ∷ 48 ∷ 64 ∷ 10 ∷ []) 0 0 0 0 6 1 0 ∷
    -- byte 71 is neither a digit nor a gap
    row (48 ∷ 32 ∷ 48 ∷ 71 ∷ 10 ∷ []) 0 0 0 0 6 1 0 ∷
    -- byte 96 is neither a digit nor a gap
    row (48 ∷ 32 ∷ 48 ∷ 96 ∷ 10 ∷ []) 0 0 0 0 6 1 0 ∷
    -- byte 103 is neither a digit nor a gap
    row (48 ∷ 32 ∷ 48 ∷ 103 ∷ 10 ∷ []) 0 0 0 0 6 1 0 ∷
    -- byte 11 is neither a digit nor a gap
    row (48 ∷ 32 ∷ 48 ∷ 11 ∷ 10 ∷ []) 0 0 0 0 6 1 0 ∷
    -- byte 12 is neither a digit nor a gap
    row (48 ∷ 32 ∷ 48 ∷ 12 ∷ 10 ∷ []) 0 0 0 0 6 1 0 ∷
    -- byte 44 is neither a digit nor a gap
    row (48 ∷ 32 ∷ 48 ∷ 44 ∷ 10 ∷ []) 0 0 0 0 6 1 0 ∷
    -- byte 47 is no label
    row (47 ∷ 32 ∷ 48 ∷ 10 ∷ []) 0 0 0 0 6 1 0 ∷
    -- byte 58 is no label
    row (58 ∷ 32 ∷ 48 ∷ 10 ∷ []) 0 0 0 0 6 1 0 ∷
    -- c, d, e and E are digits: the address is 0xcdeE, its variable not below 256
    row (48 ∷ 32 ∷ 48 ∷ 99 ∷ 100 ∷ 101 ∷ 69 ∷ 10 ∷ []) 0 0 0 0 4 1 0 ∷
    -- their values: 0x3cD, 0x3eC and 0x3Ed lie in two blocks
    row (48 ∷ 32 ∷ 51 ∷ 99 ∷ 68 ∷ 10 ∷ 48 ∷ 32 ∷ 51 ∷ 101 ∷ 67 ∷ 10 ∷ 48 ∷ 32 ∷ 51 ∷ 69 ∷ 100 ∷ 10 ∷ []) 3 8 0 0 0 0 0 ∷
    -- processor 0 writes, and processor 1 holds the block: 1 update cycle
    row (48 ∷ 32 ∷ 48 ∷ 10 ∷ 48 ∷ 32 ∷ 49 ∷ 48 ∷ 48 ∷ 48 ∷ 48 ∷ 48 ∷ 48 ∷ 10 ∷ 49 ∷ 32 ∷ 48 ∷ 10 ∷ []) 3 8 0 1 0 0 3 ∷
    -- "0 1000000\n1 0\n1 0\n1 0\n1 2000000\n0 1000000\n": at line 5 processor 1, with counter 1, pays and not processor 0, with 4; so line 6 is a miss (P5)
    row (48 ∷ 32 ∷ 49 ∷ 48 ∷ 48 ∷ 48 ∷ 48 ∷ 48 ∷ 48 ∷ 10 ∷ 49 ∷ 32 ∷ 48 ∷ 10 ∷ 49 ∷ 32 ∷ 48 ∷ 10 ∷ 49 ∷ 32 ∷ 48 ∷ 10 ∷ 49 ∷ 32 ∷ 50 ∷ 48 ∷ 48 ∷ 48 ∷ 48 ∷ 48 ∷ 48 ∷ 10 ∷ 48 ∷ 32 ∷ 49 ∷ 48 ∷ 48 ∷ 48 ∷ 48 ∷ 48 ∷ 48 ∷ 10 ∷ []) 6 16 0 4 0 0 5 ∷
    -- label 4 (P6): a clear counts as one request and writes the marked block back: "1 0\n4 0\n"
    row (49 ∷ 32 ∷ 48 ∷ 10 ∷ 52 ∷ 32 ∷ 48 ∷ 10 ∷ []) 2 4 4 0 0 0 0 ∷
    -- the line is empty then, and memory has the block: "1 0\n4 0\n0 0\n"
    row (49 ∷ 32 ∷ 48 ∷ 10 ∷ 52 ∷ 32 ∷ 48 ∷ 10 ∷ 48 ∷ 32 ∷ 48 ∷ 10 ∷ []) 3 8 4 0 0 0 1 ∷
    -- lines of clears count in the line number: "1 0\n4 0\n1 0\n"
    row (49 ∷ 32 ∷ 48 ∷ 10 ∷ 52 ∷ 32 ∷ 48 ∷ 10 ∷ 49 ∷ 32 ∷ 48 ∷ 10 ∷ []) 3 8 4 0 0 0 3 ∷
    -- an unmarked block goes for nothing: "0 0\n4 0\n0 0\n"
    row (48 ∷ 32 ∷ 48 ∷ 10 ∷ 52 ∷ 32 ∷ 48 ∷ 10 ∷ 48 ∷ 32 ∷ 48 ∷ 10 ∷ []) 3 8 0 0 0 0 0 ∷
    -- every line is cleared, 0 to 7: "1 0\n1 70\n4 0\n0 70\n"
    row (49 ∷ 32 ∷ 48 ∷ 10 ∷ 49 ∷ 32 ∷ 55 ∷ 48 ∷ 10 ∷ 52 ∷ 32 ∷ 48 ∷ 10 ∷ 48 ∷ 32 ∷ 55 ∷ 48 ∷ 10 ∷ []) 4 12 8 0 0 0 0 ∷
    -- a clear leaves the other caches: "1 0\n4 1000000\n0 0\n"
    row (49 ∷ 32 ∷ 48 ∷ 10 ∷ 52 ∷ 32 ∷ 49 ∷ 48 ∷ 48 ∷ 48 ∷ 48 ∷ 48 ∷ 48 ∷ 10 ∷ 48 ∷ 32 ∷ 48 ∷ 10 ∷ []) 3 4 0 0 0 0 1 ∷
    -- only the top byte counts: low bits of a variable in another line play no part: "1 0\n4 10\n"
    row (49 ∷ 32 ∷ 48 ∷ 10 ∷ 52 ∷ 32 ∷ 49 ∷ 48 ∷ 10 ∷ []) 2 4 4 0 0 0 0 ∷
    -- nor do low bits beyond the last variable, so 4 cannot apply: "1 0\n4 00ffffff\n"
    row (49 ∷ 32 ∷ 48 ∷ 10 ∷ 52 ∷ 32 ∷ 48 ∷ 48 ∷ 102 ∷ 102 ∷ 102 ∷ 102 ∷ 102 ∷ 102 ∷ 10 ∷ []) 2 4 4 0 0 0 0 ∷
    -- a clear of processor 3 is taken, one of 4 gives 3: "4 3000000\n4 4000000\n"
    row (52 ∷ 32 ∷ 51 ∷ 48 ∷ 48 ∷ 48 ∷ 48 ∷ 48 ∷ 48 ∷ 10 ∷ 52 ∷ 32 ∷ 52 ∷ 48 ∷ 48 ∷ 48 ∷ 48 ∷ 48 ∷ 48 ∷ 10 ∷ []) 1 0 0 0 3 2 0 ∷
    -- a clear without an address is malformed: "4 \n"
    row (52 ∷ 32 ∷ 10 ∷ []) 0 0 0 0 6 1 0 ∷
    -- 7 still meets label 3: "3 0\n"
    row (51 ∷ 32 ∷ 48 ∷ 10 ∷ []) 0 0 0 0 7 1 0 ∷
    -- and label 5: "1 0\n5 0\n"
    row (49 ∷ 32 ∷ 48 ∷ 10 ∷ 53 ∷ 32 ∷ 48 ∷ 10 ∷ []) 1 4 0 0 7 2 1 ∷
    -- lent tables: of the right lengths, whatever they hold
    lent_case 32 32 32 128 256 0 ∷
    -- 2: each too short, or too long
    lent_case 31 32 32 128 256 2 ∷
    lent_case 33 32 32 128 256 2 ∷
    lent_case 32 31 32 128 256 2 ∷
    lent_case 32 33 32 128 256 2 ∷
    lent_case 32 32 31 128 256 2 ∷
    lent_case 32 32 33 128 256 2 ∷
    lent_case 32 32 32 127 256 2 ∷
    lent_case 32 32 32 129 256 2 ∷
    lent_case 32 32 32 128 255 2 ∷
    lent_case 32 32 32 128 257 2 ∷
    []
