use Rattle.std.proofs.Common.{◌≡◌, ◌&&◌, ◌||◌, ℕ, ℤ, nat_eq, take}
use Rattle.std.specs.HashSet.{contains}
use Rattle.xg_check.specs.Tags.{members_have}
use Rattle.xg_check.specs.Held.{same_pair}
use Rattle.xg_check.proofs.tags.Tags.add_members.Given as goal

abbrev pub invariant-loop-member : goal.invariant-loop-member
invariant-loop-member l = record {
  tags_are : l.self.tags ≡ l.fn.self.tags;
  values_are : (i : ℕ) (z : ℤ) → contains same_pair l.self.values (i, z)
      ≡ (contains same_pair l.fn.self.values (i, z)
      || (nat_eq i l.place && members_have l.constants (take l.member-index l.members) z));
}
