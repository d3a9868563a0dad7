use Rattle.std.proofs.Common.{List, None, subst}
use Rattle.xdr_value.specs.View.{types_of, procs_of}
use Rattle.xdr_value.specs.declared.def.Def.{Def}
use Rattle.xdr_value.proofs.PlaceLaws.{place_within}
use Rattle.xdr_value.proofs.SoundLaw.{tests}
use Rattle.xdr_value.proofs.ChainLaws.{Told, told_end, told_lost, told_none, told_spent, link_tells}
use Rattle.xdr_value.proofs.chains.reached.Goals as goal

pub place_of-requires : goal.place_of-requires
place_of-requires c =
    rw c.as_slice-types.ensures.value (tests (types_of c.args.iface.now.types.items)
    (procs_of c.args.iface.now.procs.items) c.args.iface.now.sound).first

pub link_at-link-requires-clause-at : goal.link_at-link-requires-clause-at
link_at-link-requires-clause-at c =
    place_within c.as_slice-types.result.now c.in-Some.at c.args.name.now c.in-Some.ensures

-- ---- where no name is followed

pub returns-then-hops-eq0-clause-heads : goal.returns-then-hops-eq0-clause-heads
returns-then-hops-eq0-clause-heads c =
    rw c.if-hops-eq0.true (told_spent (types_of c.args.iface.now.types.items) 0 c.args.name.now).heads

pub returns-then-hops-eq0-clause-hollows : goal.returns-then-hops-eq0-clause-hollows
returns-then-hops-eq0-clause-hollows c =
    rw c.if-hops-eq0.true (told_spent (types_of c.args.iface.now.types.items) 0 c.args.name.now).hollows

pub returns-then-hops-eq0-clause-zeros : goal.returns-then-hops-eq0-clause-zeros
returns-then-hops-eq0-clause-zeros c =
    rw c.if-hops-eq0.true (told_spent (types_of c.args.iface.now.types.items) 0 c.args.name.now).zeros

-- ---- where the name is unknown

pub returns-in-None-clause-heads : goal.returns-in-None-clause-heads
returns-in-None-clause-heads c =
    (told_none (types_of c.args.iface.now.types.items) c.args.hops 0 c.args.name.now
    (rw c.as_slice-types.ensures.value at c.in-None.ensures)).heads

pub returns-in-None-clause-hollows : goal.returns-in-None-clause-hollows
returns-in-None-clause-hollows c =
    (told_none (types_of c.args.iface.now.types.items) c.args.hops 0 c.args.name.now
    (rw c.as_slice-types.ensures.value at c.in-None.ensures)).hollows

pub returns-in-None-clause-zeros : goal.returns-in-None-clause-zeros
returns-in-None-clause-zeros c =
    (told_none (types_of c.args.iface.now.types.items) c.args.hops 0 c.args.name.now
    (rw c.as_slice-types.ensures.value at c.in-None.ensures)).zeros

-- ---- where too few names are followed

pub returns-then-hops-link-clause-heads : goal.returns-then-hops-link-clause-heads
returns-then-hops-link-clause-heads c =
    let ds = c.as_slice-types.result.now in
    let tells = link_tells (types_of ds) c.args.name.now c.link_at-link.result
    (c.link_at-link.ensures.right c.args.name.now c.in-Some.ensures) in
    (subst (λ (x : List Def). Told (types_of x) c.args.hops 0 c.args.name.now None) c.as_slice-types.ensures.value
    (told_lost (types_of ds) c.args.hops c.link_at-link.result.hops 0 c.args.name.now tells.0 tells.1
    c.if-hops-link.true)).heads

pub returns-then-hops-link-clause-hollows : goal.returns-then-hops-link-clause-hollows
returns-then-hops-link-clause-hollows c =
    let ds = c.as_slice-types.result.now in
    let tells = link_tells (types_of ds) c.args.name.now c.link_at-link.result
    (c.link_at-link.ensures.right c.args.name.now c.in-Some.ensures) in
    (subst (λ (x : List Def). Told (types_of x) c.args.hops 0 c.args.name.now None) c.as_slice-types.ensures.value
    (told_lost (types_of ds) c.args.hops c.link_at-link.result.hops 0 c.args.name.now tells.0 tells.1
    c.if-hops-link.true)).hollows

pub returns-then-hops-link-clause-zeros : goal.returns-then-hops-link-clause-zeros
returns-then-hops-link-clause-zeros c =
    let ds = c.as_slice-types.result.now in
    let tells = link_tells (types_of ds) c.args.name.now c.link_at-link.result
    (c.link_at-link.ensures.right c.args.name.now c.in-Some.ensures) in
    (subst (λ (x : List Def). Told (types_of x) c.args.hops 0 c.args.name.now None) c.as_slice-types.ensures.value
    (told_lost (types_of ds) c.args.hops c.link_at-link.result.hops 0 c.args.name.now tells.0 tells.1
    c.if-hops-link.true)).zeros

-- ---- at the end

pub returns-else-hops-link-clause-heads : goal.returns-else-hops-link-clause-heads
returns-else-hops-link-clause-heads c =
    let differ = (tests (types_of c.args.iface.now.types.items) (procs_of c.args.iface.now.procs.items)
    c.args.iface.now.sound).first in
    (told_end c.as_slice-types.result.now c.args.iface.now.types.items c.args.name.now c.link_at-link.result
    c.index-types-link.result c.args.hops c.as_slice-types.ensures.value differ
    (c.link_at-link.ensures.right c.args.name.now c.in-Some.ensures) c.if-hops-link.false).heads

pub returns-else-hops-link-clause-hollows : goal.returns-else-hops-link-clause-hollows
returns-else-hops-link-clause-hollows c =
    let differ = (tests (types_of c.args.iface.now.types.items) (procs_of c.args.iface.now.procs.items)
    c.args.iface.now.sound).first in
    (told_end c.as_slice-types.result.now c.args.iface.now.types.items c.args.name.now c.link_at-link.result
    c.index-types-link.result c.args.hops c.as_slice-types.ensures.value differ
    (c.link_at-link.ensures.right c.args.name.now c.in-Some.ensures) c.if-hops-link.false).hollows

pub returns-else-hops-link-clause-zeros : goal.returns-else-hops-link-clause-zeros
returns-else-hops-link-clause-zeros c =
    let differ = (tests (types_of c.args.iface.now.types.items) (procs_of c.args.iface.now.procs.items)
    c.args.iface.now.sound).first in
    (told_end c.as_slice-types.result.now c.args.iface.now.types.items c.args.name.now c.link_at-link.result
    c.index-types-link.result c.args.hops c.as_slice-types.ensures.value differ
    (c.link_at-link.ensures.right c.args.name.now c.in-Some.ensures) c.if-hops-link.false).zeros
