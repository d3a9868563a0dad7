use Rattle.std.proofs.Common.{◌≡◌, ◌-◌, ◌+◌, ◌∙◌, ◌++◌, ◌∷◌, [], ap, arith, length, take, List, ℕ}
use Rattle.std.proofs.lemmas.List.{with_items_is}
use Rattle.rx_model.specs.Message.{IsBytes}
use Rattle.rx_jumbo.specs.JoinerState.{JoinerState}
use Rattle.rx_jumbo.specs.Text.{datagrams_in, extended}
use Rattle.rx_jumbo.proofs.HeadLaws.{is_long}
use Rattle.rx_jumbo.proofs.KeptLaws.{grows, kept_grown, mark_there, parts_grown, room_there}
use Rattle.rx_jumbo.proofs.joiner.Joiner.add.Goals as goal

pub extend-self-inside-requires-clause-header : goal.extend-self-inside-requires-clause-header
extend-self-inside-requires-clause-header c =
    let d : List ℕ = c.args.bytes.now in
    let most = ap (λ (h : JoinerState). h.most) c.self.view_is in
    let held = ap (λ (h : JoinerState). h.datagrams) c.self.view_is in
    is_long d (grows c.args.self.now d c.self.invariant most held c.requires.room c.requires.next).on.whole

pub extend-self-inside-requires-clause-mark : goal.extend-self-inside-requires-clause-mark
extend-self-inside-requires-clause-mark c =
    let d : List ℕ = c.args.bytes.now in
    let fits : IsBytes d = λ i. omega (arith, c.type_inv.bytes i) in
    let most = ap (λ (h : JoinerState). h.most) c.self.view_is in
    let held = ap (λ (h : JoinerState). h.datagrams) c.self.view_is in
    let g = grows c.args.self.now d c.self.invariant most held c.requires.room c.requires.next in
    mark_there c.self.invariant fits c.requires.single c.requires.size g

pub extend-self-inside-requires-clause-room : goal.extend-self-inside-requires-clause-room
extend-self-inside-requires-clause-room c =
    let d : List ℕ = c.args.bytes.now in
    let fits : IsBytes d = λ i. omega (arith, c.type_inv.bytes i) in
    let most = ap (λ (h : JoinerState). h.most) c.self.view_is in
    let held = ap (λ (h : JoinerState). h.datagrams) c.self.view_is in
    let g = grows c.args.self.now d c.self.invariant most held c.requires.room c.requires.next in
    let there = room_there c.self.invariant fits c.requires.single c.requires.size g in
    omega (arith, there, ap (λ (xs : List ℕ). length xs) c.deref_mut.ensures.value)

pub invariant_of-self : goal.invariant_of-self
invariant_of-self c =
    let j = c.self.inside in
    let d : List ℕ = c.args.bytes.now in
    let fits : IsBytes d = λ i. omega (arith, c.type_inv.bytes i) in
    let most = ap (λ (h : JoinerState). h.most) c.self.view_is in
    let held = ap (λ (h : JoinerState). h.datagrams) c.self.view_is in
    let g = grows c.args.self.now d c.self.invariant most held c.requires.room c.requires.next in
    let new : List ℕ = c.extend-self-inside.new.to in
    let same : length new ≡ j.bytes.len = c.extend-self-inside.auto.to ∙ c.deref_mut.ensures.len in
    let size : length new ≡ length j.bytes.items = omega (arith, same, j.bytes.ok.0) in
    let was = ap (λ (xs : List ℕ). extended (take j.len xs) (j.count - 1) d) c.deref_mut.ensures.value in
    let extend = c.extend-self-inside.ensures in
    rw (with_items_is j.bytes new same) (kept_grown c.self.invariant fits c.requires.single c.requires.size g
    c.extend-self-inside.result new extend.bytes size extend.size (extend.text ∙ was))

pub returns : goal.returns
returns c =
    let j = c.self.inside in
    let d : List ℕ = c.args.bytes.now in
    let fits : IsBytes d = λ i. omega (arith, c.type_inv.bytes i) in
    let most = ap (λ (h : JoinerState). h.most) c.self.view_is in
    let held = ap (λ (h : JoinerState). h.datagrams) c.self.view_is in
    let g = grows c.args.self.now d c.self.invariant most held c.requires.room c.requires.next in
    let new : List ℕ = c.extend-self-inside.new.to in
    let end : ℕ = c.extend-self-inside.result in
    let same : length new ≡ j.bytes.len = c.extend-self-inside.auto.to ∙ c.deref_mut.ensures.len in
    let size : length new ≡ length j.bytes.items = omega (arith, same, j.bytes.ok.0) in
    let was = ap (λ (xs : List ℕ). extended (take j.len xs) (j.count - 1) d) c.deref_mut.ensures.value in
    let extend = c.extend-self-inside.ensures in
    let parts =
    parts_grown c.self.invariant fits c.requires.single c.requires.size g end new extend.bytes size extend.size
    (extend.text ∙ was) in
    let more =
    ap (λ (xs : List ℕ). datagrams_in (j.count + 1) (take end xs)) (with_items_is j.bytes new same) ∙ parts
    ∙ ap (λ (ds : List (List ℕ)). ds ++ d ∷ []) held in
    λ i. record { most = (c.self.view_is i).most; host = (c.self.view_is i).host; datagrams = more i }
