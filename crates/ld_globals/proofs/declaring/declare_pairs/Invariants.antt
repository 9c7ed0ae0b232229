use Rattle.std.proofs.Common.{◌≡◌, ◌≤◌, map, length}
use Rattle.std.specs.List.{AllByRecursion, fold}
use Rattle.std.specs.Str.{bytes_eq}
use Rattle.indexmap.specs.IndexMap as by_key
use Rattle.ld_globals.specs.Kept.{Extends, IsWhole, uri_and_declaration}
use Rattle.ld_globals.specs.Store.{with_declared}
use Rattle.ld_globals.proofs.declaring.declare_pairs.Given as goal

abbrev pub invariant-loop-uri : goal.invariant-loop-uri
invariant-loop-uri l = record {
  pairs : fold with_declared (map uri_and_declaration l.declared.entries) (map uri_and_declaration l.uri-iterator.rest.items) ≡ fold with_declared (map uri_and_declaration l.fn.declared.entries) (map uri_and_declaration l.fn.pairs.items);
  room : length l.uri-iterator.rest.items ≤ by_key.spare l.declared;
  whole : AllByRecursion IsWhole l.uri-iterator.rest.items;
  keeps : Extends l.fn.declared.entries l.declared.entries;
  unique : by_key.IsUnique (λ a b. bytes_eq a.bytes b.bytes) l.fn.declared → by_key.IsUnique (λ a b. bytes_eq a.bytes b.bytes) l.declared;
}
