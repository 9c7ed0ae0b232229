-- The program as `clap` sees it: six verbs, each with words behind it.
use Rattle.std.specs.Prelude.{ℕ, List, [], ◌∷◌, Some, true, codes}
use Rattle.clap.specs.Simple.{App, Shape, new_rule, new_shape, with_subcommand}
use Rattle.clap.specs.Walk.{Rule}
use Rattle.clap.specs.declared.builder.action.ArgAction.TheVariants.{Set}

-- One word or more, but no more than this.
abbrev pub words_rule : ℕ → Rule
words_rule most = record (new_rule (codes "words")) {
  action = Some Set;
  range = Some (record { start_inclusive = 1; end_inclusive = most });
  required = true;
}

-- A verb with so many words behind it.
abbrev pub verb_shape : List ℕ → ℕ → Shape
verb_shape name most = record (new_shape name) { rules = words_rule most ∷ [] }

-- The program before it has verbs: one of them has to be named, and there is no help and no version.
abbrev pub bare_app : App
bare_app = record {
  top = record (new_shape (codes "ld")) {
    no_binary_name = true;
    disable_help_flag = true;
    disable_help_subcommand = true;
    disable_version_flag = true;
    subcommand_required = true;
  };
  subs = [];
}

-- The whole program.
abbrev pub ld_app : App
ld_app =
    with_subcommand (with_subcommand (with_subcommand (with_subcommand (with_subcommand (with_subcommand bare_app
    (verb_shape (codes "replay") 64))
    (verb_shape (codes "check") 1))
    (verb_shape (codes "canon") 1))
    (verb_shape (codes "rank") 1))
    (verb_shape (codes "keep") 64))
    (verb_shape (codes "gen") 2)
