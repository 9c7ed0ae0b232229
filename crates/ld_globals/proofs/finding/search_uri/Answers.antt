use Rattle.std.proofs.Common.{sym}
use Rattle.std.proofs.lemmas.Map.Made.{lookup_key_passes}
use Rattle.std.specs.Str.{bytes_eq}
use Rattle.ld_globals.proofs.finding.search_uri.Goals as goal

pub returns-clause-some : goal.returns-clause-some
returns-clause-some c =
    let found = c.in_ok-number.ensures in
    record {
      key = c.in_ok-number.field-0-1.now;
      there = found.entry;
      same = lookup_key_passes (λ k. bytes_eq c.args.uri.now.bytes k.bytes) c.args.declared.now.entries c.in_ok-number.field-0-1.now (sym found.key);
      value = sym found.value;
    }
