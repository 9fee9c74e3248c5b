-- A subcommand as the code builds it.
use Rattle.std.specs.Prelude.{◌≡◌, false}
use Rattle.clap.specs.Simple.{Shape, shape_of}
use Rattle.clap.specs.declared.builder.command.Command.{Command}
use Rattle.clap.specs.declared.builder.command.Command.TheViews.{out-Command}

-- clap reads a command so, which has no argument that is global
pub record IsSubcommand (command : Command) (described : Shape) : Type 0 where
  pub shape : shape_of command ≡ described
  pub local : (out-Command command).has_globals ≡ false
