-- The number is below the number of slots (line_slot-lt), which are few (few-slots), so it fits.
use mathlib.Core.Path.{refl}
use native.Mathlib.Omega.{arith}
use Rattle.protocol_types.proofs.Board.{few-slots, line_slot-lt}
use Rattle.protocol_types.proofs.Setup.line_slot.Goals as goal

pub overflow_mul-result : goal.overflow_mul-result
overflow_mul-result c =
    let a = c.args in
    omega (arith, line_slot-lt a.self c.requires.fits a.processor a.line c.requires.processor_lt_processors.0 c.requires.processor_lt_processors.1, few-slots a.self c.requires.fits)

pub overflow_add-result : goal.overflow_add-result
overflow_add-result c =
    let a = c.args in
    omega (arith, line_slot-lt a.self c.requires.fits a.processor a.line c.requires.processor_lt_processors.0 c.requires.processor_lt_processors.1, few-slots a.self c.requires.fits)

pub overflow_cast-result : goal.overflow_cast-result
overflow_cast-result c =
    let a = c.args in
    omega (arith, line_slot-lt a.self c.requires.fits a.processor a.line c.requires.processor_lt_processors.0 c.requires.processor_lt_processors.1, few-slots a.self c.requires.fits)

pub returns : goal.returns
returns c =
    let a = c.args in record {
      value = refl;
      upper_bound = line_slot-lt a.self c.requires.fits a.processor a.line c.requires.processor_lt_processors.0 c.requires.processor_lt_processors.1;
    }
