use Rattle.std.proofs.Common.{◌<◌, ◌++◌, ◌∷◌, [], length, map, ap, sym, ◌∙◌, arith}
use Rattle.std.proofs.lemmas.List.{take_more_set, length-set}
use Rattle.std.proofs.lemmas.List.FromFn.{map-range_with_len_more}
use Rattle.std.specs.List.{range_with_len}
use Rattle.ld_roles.specs.Seats.{is_member_with}
use Rattle.ld_roles.proofs.seat.note_members.Goals as goal

pub loop-role-preserved : goal.loop-role-preserved
loop-role-preserved c =
    let member = c.loop-role.member.items in
    let role = c.loop-role.role in
    let below : role < length member = omega arith in
    let all = is_member_with c.args.roles.now c.args.holds.now in
    record {
      count = length-set member role c.is_member.result ∙ c.loop-role.invariant.count;
      noted = take_more_set member role c.is_member.result below
          ∙ ap (λ front. front ++ c.is_member.result ∷ []) c.loop-role.invariant.noted
          ∙ ap (λ last. map all (range_with_len 0 role) ++ last ∷ []) c.is_member.ensures
          ∙ sym (map-range_with_len_more all 0 role role (omega arith));
    }
