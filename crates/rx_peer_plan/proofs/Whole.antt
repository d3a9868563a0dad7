-- The events of a plan of peers leave a history so, with the peers that its first lines make: they are a world of
-- peers.
use Rattle.std.proofs.Common.{◌≡◌, ◌⊎◌, if◌then◌else◌, nat_le, nat_lt, ℕ, zero, suc, Bool, true, false}
use Rattle.std.proofs.Common.{List, [], ◌∷◌, ◌++◌, Option, Some, None, refl, inl, inr, sym, subst, ap, All, IfSome}
use Rattle.std.proofs.Common.{append-nil, append_assoc, reverse, slice_get}
use Rattle.std.proofs.lemmas.List.Elements.{All-head, All-nil, All-push, All-tail}
use Rattle.rx_class.specs.NullLaws.{null_fits}
use Rattle.rx_history.proofs.Client.{at-most}
use Rattle.rx_history.proofs.Laws.TakenLaws.{is-below}
use Rattle.rx_joint_peers.specs.Joint.{made_peer}
use Rattle.rx_model.proofs.NameLaws.{both}
use Rattle.rx_model.specs.declared.event.Noted.{Noted}
use Rattle.rx_model.specs.declared.names.Host.{Host}
use Rattle.rx_model.specs.declared.names.Limits.{Limits}
use Rattle.rx_model.specs.declared.wire.TheConstants.{MAX_WINDOW, MIN_WINDOW}
use Rattle.rx_peer.proofs.Kept.{peer_law}
use Rattle.rx_peer.specs.declared.role.Role.{Role}
use Rattle.rx_peer.specs.declared.role.Role.TheVariants as roles
use Rattle.rx_peer.specs.PeerWorlds.{IsPeer, PeerNode, PeerWorld}
use Rattle.rx_peer.specs.PeerWorlds.{half, peer_at, setup_at}
use Rattle.rx_peer_plan.proofs.Halves.{Good, In, good_before, good_none, legal_half}
use Rattle.rx_peer_plan.proofs.Lines.{line_safe, of_numbered}
use Rattle.rx_peer_plan.proofs.Safe.{Ends, Safe, ends_safe, then_safe}
use Rattle.rx_peer_plan.proofs.Turns.{Is}
use Rattle.rx_peer_plan.specs.Follows.{CutOff, EndlessIn, FollowsPeers, Goes, Progress, RefusedAt, Went, Whole, adds}
use Rattle.rx_peer_plan.specs.Follows.{all}
use Rattle.rx_peer_plan.specs.Follows.{cut, endless, has_room, made_node, next, next_part, refused}
use Rattle.rx_peer_plan.specs.Lines.{line_part}
use Rattle.rx_peer_plan.specs.Promises.{AreInRange, HaveOwnHosts, IsInRange, PeerPromised, PeerPromises, peer_before}
use Rattle.rx_peer_plan.specs.Promises.{peer_made, plan_peers}
use Rattle.rx_peer_plan.specs.Stages.{PeerHandlers, PeerStage}
use Rattle.rx_plan.proofs.Bags.{behind, behind_both, behind_none}
use Rattle.rx_plan.proofs.Soundness.Sound.{IfTo}
use Rattle.rx_plan.proofs.Soundness.SoundPlan.{and_left}
use Rattle.rx_plan.specs.Follows.{fits_limits}
use Rattle.rx_plan.specs.Parts.{Came, Cut, Endless, Refused, Then, To, ends}
use Rattle.rx_rules.specs.Rules.{Legal}
use Rattle.rx_rules.specs.Setup.{FitsLimits, FitsSetup}
use Rattle.rx_script.specs.declared.outcome.PlanWhy.TheVariants as causes
use Rattle.rx_script.specs.declared.plan.PeerLine.{PeerLine}
use Rattle.rx_script.specs.declared.plan.PeerLine.TheVariants as lines
use Rattle.rx_script.specs.declared.plan.PeerNumbered.{PeerNumbered}

-- ---- peers fit

room_fits : (l : Limits) (ps : List PeerNode) → has_room l ps ≡ true → FitsLimits l
room_fits l ps h =
    let a = both (nat_le 1 l.conns) _ (and_left (fits_limits l) _ h) in
    let b = both (nat_le l.conns 65536) _ a.1 in
    let c = both (nat_le 1 l.calls) _ b.1 in
    let d = both (nat_le l.calls 4096) _ c.1 in
    let e = both (nat_lt l.calls l.slots) _ d.1 in
    let f = both (nat_le l.slots 65536) _ e.1 in
    let g = both (nat_le MIN_WINDOW l.window) _ f.1 in
    record {
      some_conns = at-most 1 l.conns a.0;
      few_conns = at-most l.conns 65536 b.0;
      some_calls = at-most 1 l.calls c.0;
      few_calls = at-most l.calls 4096 d.0;
      some_slots = is-below l.calls l.slots e.0;
      few_slots = at-most l.slots 65536 f.0;
      wide = at-most MIN_WINDOW l.window g.0;
      narrow = at-most l.window MAX_WINDOW g.1;
    }

made_is : (host : Host) (epoch service : ℕ) (limits : Limits) → IsInRange (made_peer host epoch service limits)
    → FitsLimits limits → IsPeer (made_peer host epoch service limits)
made_is host epoch service limits low fits = record { caller = refl; served = tt; fits = λ r. of r }
  where
    of : (r : Role) → FitsSetup (setup_at r (made_peer host epoch service limits))
    of roles.Caller = record { kind = low.caller; limits = fits; class = null_fits }
    of roles.Served = record { kind = low.served; limits = fits; class = null_fits }

-- ---- how lines went

-- where all lines were made
abbrev pub IfWhole : (PeerStage → Type 0) → Went PeerStage → Type 0
IfWhole P (Whole s) = P s
IfWhole P (RefusedAt line why) = Unit {0}
IfWhole P CutOff = Unit {0}
IfWhole P EndlessIn = Unit {0}

-- the lines of a plan of peers, from some progress on
abbrev pub GoesOn : PeerHandlers → List PeerNumbered → Progress PeerStage → List Noted → Went PeerStage → Type 0
GoesOn g ls p es went = Goes (λ (l : PeerNumbered). l.line) (λ l. next_part g l.what) ls p es went

-- ---- lines behind one that made no peer

module _ (peers : List PeerNode) where
  -- what a run came to behind a line that made no peer
  record IsLate (h : List Noted) (p : Progress PeerStage) : Type 0 where
    stage : Is peers h p.stage
    late : p.late ≡ true

  line_next_safe : (g : PeerHandlers) (line : PeerLine) (h : List Noted) (p : Progress PeerStage) → Good peers h
      → Is peers h p.stage
      → Safe (Good peers) IsLate h
      (Then (line_part g p.place line p.stage)
      (λ s. ends (To (record { stage = s; late = true; place = suc p.place }))))
  line_next_safe g line h p good i =
      then_safe (Good peers) (Is peers) IsLate h (line_part g p.place line p.stage) _
      (line_safe peers g p.place line h p.stage good i)
      (λ es s now is. ends_safe (Good peers) IsLate (behind es h) _ now (record { stage = is; late = refl }))

  late_safe : (g : PeerHandlers) (line : PeerLine) (h : List Noted) (p : Progress PeerStage) → Good peers h
      → IsLate h p → Safe (Good peers) IsLate h (next_part g line p)
  late_safe g (lines.Peer host epoch service limits) h p good i =
      ends_safe (Good peers) IsLate h
      (made_node p (adds p.late limits (made_peer host epoch service limits) p.stage)) good
      (subst (λ b. IfTo (IsLate h) (made_node p (adds b limits (made_peer host epoch service limits) p.stage)))
      (sym i.late) tt)
  late_safe g line h p good i = line_next_safe g line h p good i.stage

  -- the history is so, and where all lines were made it is that of the stage, with its peers
  record WentWell (h : List Noted) (went : Went PeerStage) : Type 0 where
    good : Good peers h
    whole : IfWhole (λ s. (s.peers ≡ peers) × (s.history ≡ h)) went

  late_goes : (g : PeerHandlers) (ls : List PeerNumbered) (p : Progress PeerStage) (es : List Noted)
      (went : Went PeerStage) → GoesOn g ls p es went → (h : List Noted) → Good peers h → IsLate h p
      → WentWell (behind es h) went
  late_goes g ls p es went goes h good i = of goes h good i
    where
      of : {ls : List PeerNumbered} {p : Progress PeerStage} {es : List Noted} {went : Went PeerStage}
          → GoesOn g ls p es went → (h : List Noted) → Good peers h → IsLate h p → WentWell (behind es h) went
      of (all p) h good i = record { good = good; whole = (i.stage.at, i.stage.history) }
      of (next l ls p q es more went one rest) h good i =
          (let b : Ends (Good peers) IsLate (behind es h) (To q) = late_safe g l.what h p good i es (To q) one in
          subst (λ k. WentWell k went) (sym (behind_both es more h)) (of rest (behind es h) b.good b.came))
      of (refused l ls p es why one) h good i =
          (let b : Ends (Good peers) IsLate (behind es h) (Refused why) =
          late_safe g l.what h p good i es (Refused why) one in
          record { good = b.good; whole = tt })
      of (cut l ls p es one) h good i =
          (let b : Ends (Good peers) IsLate (behind es h) Cut = late_safe g l.what h p good i es Cut one in
          record { good = b.good; whole = tt })
      of (endless l ls p es one) h good i =
          (let b : Ends (Good peers) IsLate (behind es h) Endless = late_safe g l.what h p good i es Endless one in
          record { good = b.good; whole = tt })

-- ---- lines that make peers

-- the peers are as they can be made, the history is so, and where all lines were made they are those of the stage
pub record IsSound (peers : List PeerNode) (es : List Noted) (went : Went PeerStage) : Type 0 where
  pub are : All IsPeer peers
  pub good : Good peers (behind es [])
  pub whole : IfWhole (λ s. (s.peers ≡ peers) × (s.history ≡ behind es [])) went

-- no event was made, and not all lines were; or that
abbrev pub Kept : List PeerNode → List Noted → Went PeerStage → Type 0
Kept peers es went = ((es ≡ []) × IfWhole (λ s. ⊥) went) ⊎ IsSound peers es went

-- a run that only made these peers
record Fresh (ps : List PeerNode) (p : Progress PeerStage) : Type 0 where
  at : p.stage.peers ≡ ps
  history : p.stage.history ≡ []
  packets : p.stage.packets ≡ []
  late : p.late ≡ false
  are : All IsPeer ps

fresh_is : (ps : List PeerNode) (p : Progress PeerStage) → Fresh ps p → Is ps [] p.stage
fresh_is ps p f =
    record {
      at = f.at;
      history = f.history;
      packets = subst (All (In ps [])) (sym f.packets) (All-nil (In ps []));
    }

-- the peers of a plan without more
alone : (Holds : List PeerNode → Type 0) (ps : List PeerNode) → Holds ps → Holds (ps ++ [])
alone Holds ps there = subst Holds (sym (append-nil ps)) there

-- one line that makes a peer, and those behind it
module _ (limits : Limits) (n : PeerNode) (ps rest : List PeerNode) (p q : Progress PeerStage) (es more : List Noted)
    (went : Went PeerStage) (f : Fresh ps p) (fits : FitsLimits limits → IsPeer n)
    (again : (qs : List PeerNode) → Fresh qs q → Kept (qs ++ rest) more went) where
  -- the run with it
  abbrev with_it : Progress PeerStage
  with_it =
      record p {
        stage = record p.stage { peers = p.stage.peers ++ n ∷ []; jobs = p.stage.jobs ++ [] ∷ [] };
        place = suc p.place;
      }

  by_room : es ≡ [] → (b : Bool) → has_room limits p.stage.peers ≡ b
      → To q ≡ made_node p (if b then To (record p.stage {
        peers = p.stage.peers ++ n ∷ [];
        jobs = p.stage.jobs ++ [] ∷ [];
      })
      else Refused causes.Slots)
      → Kept (ps ++ n ∷ rest) (es ++ more) went
  by_room none false room made = absurd cc
  by_room none true room made =
      (let same : q ≡ with_it = cc in
      subst (λ xs. Kept (ps ++ n ∷ rest) (xs ++ more) went) (sym none)
      (subst (λ qs. Kept qs more went) (append_assoc ps (n ∷ []) rest)
      (again (ps ++ n ∷ [])
      (subst (λ r. Fresh (ps ++ n ∷ []) r) (sym same)
      (record {
        at = ap (λ qs. qs ++ n ∷ []) f.at;
        history = f.history;
        packets = f.packets;
        late = f.late;
        are = All-push IsPeer ps n f.are (fits (room_fits limits p.stage.peers room));
      })))))

  peer_goes : (es ≡ []) × ((To q ≡ made_node p (adds p.late limits n p.stage))
      ⊎ (◌≡◌ {A = Came (Progress PeerStage)} (To q) Cut))
      → Kept (ps ++ n ∷ rest) (es ++ more) went
  peer_goes (none, inr same) = absurd cc
  peer_goes (none, inl same) =
      by_room none (has_room limits p.stage.peers) refl
      (subst (λ b. To q ≡ made_node p (adds b limits n p.stage)) f.late same)

-- a line that makes no peer, and those behind it
late_line_goes : (g : PeerHandlers) (line : PeerLine) (ls : List PeerNumbered) (ps : List PeerNode)
    (p q : Progress PeerStage) (es more : List Noted) (went : Went PeerStage) → Fresh ps p
    → Then (line_part g p.place line p.stage)
    (λ t. ends (To (record { stage = t; late = true; place = suc p.place }))) es (To q)
    → GoesOn g ls q more went → IsSound ps (es ++ more) went
late_line_goes g line ls ps p q es more went f one rest =
    (let b : Ends (Good ps) (IsLate ps) (behind es []) (To q) =
    line_next_safe ps g line [] p (good_none ps) (fresh_is ps p f) es (To q) one in
    let w : WentWell ps (behind more (behind es [])) went =
    late_goes ps g ls q more went rest (behind es []) b.good b.came in
    record {
      are = f.are;
      good = subst (Good ps) (sym (behind_both es more [])) w.good;
      whole =
          subst (λ (h : List Noted). IfWhole (λ t. (t.peers ≡ ps) × (t.history ≡ h)) went)
          (sym (behind_both es more [])) w.whole;
    })

-- one line that went well, and those behind it
next_goes : (g : PeerHandlers) (line : PeerLine) (ls : List PeerNumbered) (ps : List PeerNode)
    (p q : Progress PeerStage) (es more : List Noted) (went : Went PeerStage) → Fresh ps p
    → IfSome (peer_made line) IsInRange → next_part g line p es (To q) → GoesOn g ls q more went
    → ((qs : List PeerNode) → Fresh qs q → Kept (qs ++ plan_peers ls) more went)
    → Kept (ps ++ peer_before (peer_made line) (plan_peers ls)) (es ++ more) went
next_goes g (lines.Peer host epoch service limits) ls ps p q es more went f low one rest again =
    peer_goes limits (made_peer host epoch service limits) ps (plan_peers ls) p q es more went f
    (made_is host epoch service limits low) again one
next_goes g line ls ps p q es more went f low one rest again =
    inr (alone (λ qs. IsSound qs (es ++ more) went) ps (late_line_goes g line ls ps p q es more went f one rest))

-- one line that didn't, whatever was to come
ended_goes : (g : PeerHandlers) (line : PeerLine) (rest : List PeerNode) (ps : List PeerNode)
    (p : Progress PeerStage) (es : List Noted) (out : Came (Progress PeerStage)) (went : Went PeerStage) → Fresh ps p
    → ((P : PeerStage → Type 0) → IfWhole P went) → next_part g line p es out
    → Kept (ps ++ peer_before (peer_made line) rest) es went
ended_goes g (lines.Peer host epoch service limits) rest ps p es out went f not_whole one =
    inl (one.0, not_whole (λ t. ⊥))
ended_goes g line rest ps p es out went f not_whole one =
    (let b : Ends (Good ps) (IsLate ps) (behind es []) out =
    line_next_safe ps g line [] p (good_none ps) (fresh_is ps p f) es out one in
    inr (alone (λ qs. IsSound qs es went) ps
    (record {
      are = f.are;
      good = b.good;
      whole = not_whole (λ t. (t.peers ≡ ps) × (t.history ≡ behind es []));
    })))

fresh_goes : (g : PeerHandlers) {ls : List PeerNumbered} {p : Progress PeerStage} {es : List Noted}
    {went : Went PeerStage} → GoesOn g ls p es went → (ps : List PeerNode) → Fresh ps p → AreInRange ls
    → Kept (ps ++ plan_peers ls) es went
fresh_goes g (all p) ps f low =
    inr (alone (λ qs. IsSound qs [] (Whole p.stage)) ps
    (record { are = f.are; good = good_none ps; whole = (f.at, f.history) }))
fresh_goes g (next l ls p q es more went one rest) ps f low =
    next_goes g l.what ls ps p q es more went f (All-head (λ k. IfSome (peer_made k.what) IsInRange) l ls low) one rest
    (λ qs fresh. fresh_goes g rest qs fresh (All-tail (λ k. IfSome (peer_made k.what) IsInRange) l ls low))
fresh_goes g (refused l ls p es why one) ps f low =
    ended_goes g l.what (plan_peers ls) ps p es (Refused why) (RefusedAt l.line why) f (λ P. tt) one
fresh_goes g (cut l ls p es one) ps f low =
    ended_goes g l.what (plan_peers ls) ps p es Cut CutOff f (λ P. tt) one
fresh_goes g (endless l ls p es one) ps f low =
    ended_goes g l.what (plan_peers ls) ps p es Endless EndlessIn f (λ P. tt) one

-- ---- a whole plan

plan_kept : (g : PeerHandlers) (ls : List PeerNumbered) (es : List Noted) (went : Went PeerStage) → AreInRange ls
    → FollowsPeers g ls es went → Kept (plan_peers ls) es went
plan_kept g ls es went low goes =
    fresh_goes g goes []
    (record { at = refl; history = refl; packets = refl; late = refl; are = All-nil IsPeer }) low

-- ---- worlds

-- each of peers that are so is
each_is : (ps : List PeerNode) → All IsPeer ps → (i : ℕ) → IfSome (peer_at ps i) IsPeer
each_is ps are zero = tt
each_is ps are (suc k) = of (slice_get ps k) refl
  where
    of : (o : Option PeerNode) → slice_get ps k ≡ o → IfSome o IsPeer
    of None is = tt
    of (Some p) is = of_numbered IsPeer ps (suc k) p are is

world_of : (peers : List PeerNode) (h : List Noted) → All IsPeer peers → HaveOwnHosts peers → Good peers h
    → PeerWorld peers h
world_of peers h are apart good =
    record {
      peers_are = each_is peers are;
      apart = apart;
      legal = λ i r. of i r (peer_at peers i) refl;
      carried = good.carried;
    }
  where
    of : (i : ℕ) (r : Role) (o : Option PeerNode) → peer_at peers i ≡ o
        → IfSome o (λ p. Legal (setup_at r p) (half r i h))
    of i r None is = tt
    of i r (Some p) is = legal_half peers h i r p is good.allowed

good_reversed : (peers : List PeerNode) (es : List Noted) (went : Went PeerStage) → IsSound peers es went
    → Good peers (reverse es)
good_reversed peers es went kept = subst (Good peers) (behind_none es) kept.good

-- once an event was made, what a plan of peers makes is a world of peers
pub plans_world : (g : PeerHandlers) (ls : List PeerNumbered) (es : List Noted) (went : Went PeerStage) → AreInRange ls
    → HaveOwnHosts (plan_peers ls) → FollowsPeers g ls es went → (es ≡ []) ⊎ PeerWorld (plan_peers ls) (reverse es)
plans_world g ls es went low apart goes = of (plan_kept g ls es went low goes)
  where
    of : Kept (plan_peers ls) es went → (es ≡ []) ⊎ PeerWorld (plan_peers ls) (reverse es)
    of (inl none) = inl none.0
    of (inr kept) =
        inr (world_of (plan_peers ls) (reverse es) kept.are apart (good_reversed (plan_peers ls) es went kept))

-- where all lines were made, it has those peers, and is one
pub plans_whole : (g : PeerHandlers) (ls : List PeerNumbered) (es : List Noted) (s : PeerStage) → AreInRange ls
    → HaveOwnHosts (plan_peers ls) → FollowsPeers g ls es (Whole s)
    → (s.peers ≡ plan_peers ls) × PeerWorld (plan_peers ls) (reverse es)
plans_whole g ls es s low apart goes = of (plan_kept g ls es (Whole s) low goes)
  where
    of : Kept (plan_peers ls) es (Whole s) → (s.peers ≡ plan_peers ls) × PeerWorld (plan_peers ls) (reverse es)
    of (inl none) = absurd none.1
    of (inr kept) = (
      kept.whole.0,
      world_of (plan_peers ls) (reverse es) kept.are apart (good_reversed (plan_peers ls) es (Whole s) kept),
    )

-- ---- promises

none_behind : (later now : List Noted) → [] ≡ later ++ now → now ≡ []
none_behind [] now is = sym is
none_behind (e ∷ later) now is = absurd cc

-- no connection was made without an event
promised_none : (peers : List PeerNode) → PeerPromised peers []
promised_none peers kept b made = absurd made

pub plan_promises : (g : PeerHandlers) (ls : List PeerNumbered) (es : List Noted) (went : Went PeerStage)
    → AreInRange ls → HaveOwnHosts (plan_peers ls) → FollowsPeers g ls es went → PeerPromises ls es
plan_promises g ls es went low apart goes later now is = of (plan_kept g ls es went low goes)
  where
    of : Kept (plan_peers ls) es went → PeerPromised (plan_peers ls) now
    of (inl none) =
        subst (PeerPromised (plan_peers ls))
        (sym (none_behind later now (subst (λ xs. reverse xs ≡ later ++ now) none.0 is)))
        (promised_none (plan_peers ls))
    of (inr kept) =
        peer_law (plan_peers ls) now
        (world_of (plan_peers ls) now kept.are apart
        (good_before (plan_peers ls) later now
        (subst (Good (plan_peers ls)) is (good_reversed (plan_peers ls) es went kept))))
