-- What the decoder's arguments and answers mean.
use Rattle.std.specs.Prelude.{◌<◌, Bool, true, false}
use Rattle.asc_model.specs.declared.version.Version.{Version}
use Rattle.asc_model.specs.declared.version.Version.TheVariants.{One, Two}
use Rattle.asc_model.specs.declared.instruction.Instr.{Instr}
use Rattle.asc_model.specs.Instruction.{rd_of, rs1_of, rs2_of}

-- the version of the machine, with or without RV32A
abbrev pub version_of : (atomics : Bool) → Version
version_of true = Two
version_of false = One

-- the registers that an instruction names are below 32; one that its format lacks is 0
pub record HasRegisters (i : Instr) : Type 0 where
  pub rd : rd_of i < 32
  pub rs1 : rs1_of i < 32
  pub rs2 : rs2_of i < 32
