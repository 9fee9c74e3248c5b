-- A command as it is built, argument by argument.
use Rattle.std.proofs.Common.{◌≡◌, ◌∙◌, ◌++◌, ◌∷◌, ◌||◌, [], ap, ap₂, true, false}
use Rattle.clap.specs.Words.{App, Rule, app_of, rule_of, with_subcommand}
use Rattle.clap.specs.Simple.{Shape, app_of_fields}
use Rattle.clap.specs.Built.{AddsArg, AddsSubcommand}
use Rattle.clap.specs.declared.builder.arg.Arg.{Arg}
use Rattle.clap.specs.declared.builder.command.Command.{Command}
use Rattle.clap.specs.declared.builder.command.Command.TheViews.{out-Command}
use Rattle.clap.specs.declared.builder.command.Command.TheOpen.{Command-F}
use Rattle.asc_words.specs.Subcommands.{IsSubcommand}

-- ---- a subcommand

-- a new command is read so
pub as_new : (command : Command) (app : App) → (out-Command command).has_globals ≡ false → app_of command ≡ app → IsSubcommand command app.top
as_new command app local reads = record { shape = ap (λ (a : App). a.top) reads; local = local }

-- with an argument more
pub with_arg : (old new : Command) (arg : Arg) (described : Shape) (rule : Rule) → IsSubcommand old described → AddsArg old arg new → rule_of arg ≡ rule
    → arg.global ≡ false → IsSubcommand new (record described { rules = described.rules ++ rule ∷ [] })
with_arg old new arg described rule is adds describes local = record {
  shape = ap (λ (a : App). a.top) (adds.shape local)
      ∙ ap₂ (λ (s : Shape) (r : Rule). record s { rules = s.rules ++ r ∷ [] }) is.shape describes;
  local = adds.globals ∙ ap₂ (λ a b. a || b) is.local local;
}

-- ---- asc

-- a command without global arguments, which a parse reads so
pub record Reads (command : Command) (app : App) : Type 0 where
  pub local : (out-Command command).has_globals ≡ false
  pub reads : app_of command ≡ app

-- with a subcommand more
pub with_sub : (old sub new : Command) (app : App) (described : Shape) → Reads old app → AddsSubcommand old sub new → IsSubcommand sub described
    → Reads new (with_subcommand app described)
with_sub old sub new app described reads adds is = record {
  local = adds.globals ∙ ap₂ (λ a b. a || b) reads.local is.local;
  reads = adds.shape is.local ∙ ap₂ with_subcommand reads.reads is.shape;
}

abbrev pub with_settings : App → App
with_settings app = record app {
  top = record app.top { subcommand_required = true; disable_help_flag = true; disable_help_subcommand = true };
}

pub with_each : (one two three four : Command) (app : App) → Reads one app
    → out-Command two ≡ record (out-Command one) { subcommand_required = true }
    → out-Command three ≡ record (out-Command two) { disable_help_flag = true }
    → out-Command four ≡ record (out-Command three) { disable_help_subcommand = true }
    → Reads four (with_settings app)
with_each one two three four app is first second third =
    let fields = third
    ∙ ap (λ (f : Command-F Command). record f { disable_help_subcommand = true }) (second
    ∙ ap (λ (f : Command-F Command). record f { disable_help_flag = true }) first) in
    record {
      local = ap (λ (f : Command-F Command). f.has_globals) fields ∙ is.local;
      reads = ap app_of_fields fields ∙ ap with_settings is.reads;
    }
