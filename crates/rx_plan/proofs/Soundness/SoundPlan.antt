-- The events of a plan leave a history sound, with the nodes that its first lines make.
use Rattle.std.proofs.Common.{◌&&◌, ◌≡◌, ◌≤◌, ◌<◌, ◌⊎◌, if◌then◌else◌, nat_le, nat_lt, ℕ, suc, Bool, true, false, List}
use Rattle.std.proofs.Common.{[], ◌∷◌, ◌++◌, Option, Some, None, refl, inl, inr, sym, subst, ap, All, append-nil}
use Rattle.std.proofs.Common.{append_assoc}
use Rattle.std.proofs.lemmas.List.Elements.{All-head, All-nil, All-tail, All-weaker}
use Rattle.rx_model.specs.declared.event.Noted.{Noted}
use Rattle.rx_model.specs.declared.names.Limits.{Limits}
use Rattle.rx_model.specs.declared.wire.TheConstants.{MAX_WINDOW, MIN_WINDOW}
use Rattle.rx_model.proofs.NameLaws.{both}
use Rattle.rx_rules.specs.Classes.{FitsClass}
use Rattle.rx_rules.specs.Setup.{FitsLimits, FitsSetup, IsServer}
use Rattle.rx_class.specs.NullLaws.{null_fits}
use Rattle.rx_token.specs.TokenLaws.{token_fits}
use Rattle.rx_jobs.specs.Handlers.{Handlers}
use Rattle.rx_history.specs.Sides.{IsClientAt, Node}
use Rattle.rx_law.specs.Worlds.{AreNodes}
use Rattle.rx_script.specs.declared.outcome.PlanWhy.TheVariants as causes
use Rattle.rx_script.specs.declared.plan.Numbered.{Numbered}
use Rattle.rx_script.specs.declared.plan.PlanLine.{PlanLine}
use Rattle.rx_script.specs.declared.plan.PlanLine.TheVariants as lines
use Rattle.rx_plan.specs.Follows.{CutOff, Empty, EndlessIn, Goes, Progress, RefusedAt, Went, Whole, adds, all, begins}
use Rattle.rx_plan.specs.Follows.{begun, class_of, endless}
use Rattle.rx_plan.specs.Follows.{client_node, cut, fits_limits, goes_from, has_room, made_node, next, next_part}
use Rattle.rx_plan.specs.Follows.{plan_goes, refused, server_node}
use Rattle.rx_plan.specs.Lines.{IsWell, line_part}
use Rattle.rx_plan.specs.Parts.{Came, To, Refused, Cut, Endless, Then, ends}
use Rattle.rx_plan.specs.Promises.{AreUnforged, AreInRange, IsInRange, IsUnforged, line_kind, plan_clients, plan_nodes}
use Rattle.rx_plan.specs.Promises.{client_before}
use Rattle.rx_plan.specs.Promises.{server_before}
use Rattle.rx_plan.specs.Stages.{Stage}
use Rattle.rx_plan.proofs.Allowed.{AreClients, are_nodes, clients_more}
use Rattle.rx_plan.proofs.Bags.{behind, behind_both}
use Rattle.rx_plan.proofs.Soundness.Sound.{Ends, Good, IfTo, In, Is, Safe, ends_safe, then_safe}
use Rattle.rx_plan.proofs.Soundness.SoundLines.{line_safe}
use Rattle.rx_history.proofs.Client.{at-most}
use Rattle.rx_history.proofs.Laws.TakenLaws.{is-below}

-- ---- nodes fit

limits_fit : (l : Limits) → fits_limits l ≡ true → FitsLimits l
limits_fit l h =
    let a = both (nat_le 1 l.conns) _ h in
    let b = both (nat_le l.conns 65536) _ a.1 in
    let c = both (nat_le 1 l.calls) _ b.1 in
    let d = both (nat_le l.calls 4096) _ c.1 in
    let e = both (nat_lt l.calls l.slots) _ d.1 in
    let f = both (nat_le l.slots 65536) _ e.1 in
    let g = both (nat_le MIN_WINDOW l.window) _ f.1 in
    record {
      some_conns = at-most 1 l.conns a.0;
      few_conns = at-most l.conns 65536 b.0;
      some_calls = at-most 1 l.calls c.0;
      few_calls = at-most l.calls 4096 d.0;
      some_slots = is-below l.calls l.slots e.0;
      few_slots = at-most l.slots 65536 f.0;
      wide = at-most MIN_WINDOW l.window g.0;
      narrow = at-most l.window MAX_WINDOW g.1;
    }

class_fits : (key : Option (List ℕ)) → FitsClass (class_of key)
class_fits None = null_fits
class_fits (Some key) = token_fits key

-- where two tests hold, the first does
pub and_left : (a b : Bool) → (a && b) ≡ true → a ≡ true
and_left a b h = (both a b h).0

room_fits : (l : Limits) (ns : List Node) → has_room l ns ≡ true → FitsLimits l
room_fits l ns h = limits_fit l (search and_left)

-- a line as the reader of plans gives it has them in range
line_in_range : (g : Handlers) (line : PlanLine) → IsWell g line → IsInRange (line_kind line)
line_in_range g (lines.Server host service limits key nonce) well = well
line_in_range g (lines.Client host epoch limits key) well = well
line_in_range g line well = tt

pub lines_in_range : (g : Handlers) (ls : List Numbered) → All (λ l. IsWell g l.what) ls → AreInRange ls
lines_in_range g ls well =
    All-weaker (λ l. IsWell g l.what) (λ l. IsInRange (line_kind l.what)) (λ l here. line_in_range g l.what here) ls
    well

-- ---- how lines went

-- where all lines were made
abbrev pub IfWhole : (Stage → Type 0) → Went → Type 0
IfWhole P Empty = Unit {0}
IfWhole P (Whole s) = P s
IfWhole P (RefusedAt line why) = Unit {0}
IfWhole P CutOff = Unit {0}
IfWhole P EndlessIn = Unit {0}

-- ---- lines that invent nothing, where the run is honest

first_fair : (Honest : Type 0) (l : Numbered) (ls : List Numbered) → (Honest → AreUnforged (l ∷ ls))
    → Honest → IsUnforged (line_kind l.what)
first_fair Honest l ls fair honest = All-head (λ k. IsUnforged (line_kind k.what)) l ls (fair honest)

rest_fair : (Honest : Type 0) (l : Numbered) (ls : List Numbered) → (Honest → AreUnforged (l ∷ ls))
    → Honest → AreUnforged ls
rest_fair Honest l ls fair honest = All-tail (λ k. IsUnforged (line_kind k.what)) l ls (fair honest)

-- ---- lines behind one that made no node

module _ (Honest : Type 0) (nodes : List Node) where
  -- what a run came to behind a line that made no node
  pub record IsLate (h : List Noted) (p : Progress) : Type 0 where
    pub stage : Is Honest nodes h p.stage
    pub late : p.late ≡ true

  pub line_next_safe : (g : Handlers) (line : PlanLine) (h : List Noted) (p : Progress)
      → (Honest → IsUnforged (line_kind line)) → Good Honest nodes h → Is Honest nodes h p.stage
      → Safe Honest nodes IsLate h
      (Then (line_part g p.place line p.stage)
      (λ s. ends (To (record { stage = s; late = true; place = suc p.place }))))
  line_next_safe g line h p fair good i =
      then_safe Honest nodes (Is Honest nodes) IsLate h (line_part g p.place line p.stage) _
      (line_safe Honest nodes g p.place line h p.stage fair good i)
      (λ es s now is. ends_safe Honest nodes IsLate (behind es h) _ now (record { stage = is; late = refl }))

  late_safe : (g : Handlers) (line : PlanLine) (h : List Noted) (p : Progress) → (Honest → IsUnforged (line_kind line))
      → Good Honest nodes h → IsLate h p → Safe Honest nodes IsLate h (next_part g line p)
  late_safe g (lines.Client host epoch limits key) h p fair good i =
      ends_safe Honest nodes IsLate h (made_node p (adds p.late (client_node host epoch limits key) p.stage)) good
      (subst (λ b. IfTo (IsLate h) (made_node p (adds b (client_node host epoch limits key) p.stage))) (sym i.late) tt)
  late_safe g line h p fair good i = line_next_safe g line h p fair good i.stage

  -- a good history, and the nodes and the history where all lines were made
  pub record WentWell (h : List Noted) (went : Went) : Type 0 where
    pub good : Good Honest nodes h
    pub whole : IfWhole (λ s. (s.nodes ≡ nodes) × (s.history ≡ h)) went

  pub late_goes : (g : Handlers) (ls : List Numbered) (p : Progress) (es : List Noted) (went : Went)
      → Goes g ls p es went → (h : List Noted) → (Honest → AreUnforged ls) → Good Honest nodes h → IsLate h p
      → WentWell (behind es h) went
  late_goes g ls p es went goes h fair good i = of goes h fair good i
    where
      of : {ls : List Numbered} {p : Progress} {es : List Noted} {went : Went} → Goes g ls p es went
          → (h : List Noted) → (Honest → AreUnforged ls) → Good Honest nodes h → IsLate h p
          → WentWell (behind es h) went
      of (all p) h fair good i = record { good = good; whole = (i.stage.at, i.stage.history) }
      of (next l ls p q es more went one rest) h fair good i =
          (let b : Ends Honest nodes IsLate (behind es h) (To q) =
          late_safe g l.what h p (first_fair Honest l ls fair) good i es (To q) one in
          subst (λ k. WentWell k went) (sym (behind_both es more h))
          (of rest (behind es h) (rest_fair Honest l ls fair) b.good b.came))
      of (refused l ls p es why one) h fair good i =
          (let b : Ends Honest nodes IsLate (behind es h) (Refused why) =
          late_safe g l.what h p (first_fair Honest l ls fair) good i es (Refused why) one in
          record { good = b.good; whole = tt })
      of (cut l ls p es one) h fair good i =
          (let b : Ends Honest nodes IsLate (behind es h) Cut =
          late_safe g l.what h p (first_fair Honest l ls fair) good i es Cut one in
          record { good = b.good; whole = tt })
      of (endless l ls p es one) h fair good i =
          (let b : Ends Honest nodes IsLate (behind es h) Endless =
          late_safe g l.what h p (first_fair Honest l ls fair) good i es Endless one in
          record { good = b.good; whole = tt })

-- ---- lines that make nodes

module _ (Honest : Type 0) where
  -- the nodes are as nodes of a world are, and the history is good
  pub record IsSound (nodes : List Node) (es : List Noted) (went : Went) : Type 0 where
    pub are : AreNodes nodes
    pub good : Good Honest nodes (behind es [])
    pub whole : IfWhole (λ s. (s.nodes ≡ nodes) × (s.history ≡ behind es [])) went

  -- no event was made, and not all lines were; or that
  abbrev pub Kept : List Node → List Noted → Went → Type 0
  Kept nodes es went = ((es ≡ []) × IfWhole (λ s. ⊥) went) ⊎ IsSound nodes es went

  -- a run that only made a server and these clients
  pub record Fresh (s : Node) (cs : List Node) (p : Progress) : Type 0 where
    pub at : p.stage.nodes ≡ s ∷ cs
    pub history : p.stage.history ≡ []
    pub packets : p.stage.packets ≡ []
    pub late : p.late ≡ false
    pub server : IsServer s.setup.kind
    pub fits : FitsSetup s.setup
    pub clients : AreClients cs

  fresh_is : (s : Node) (cs : List Node) (p : Progress) → Fresh s cs p → Is Honest (s ∷ cs) [] p.stage
  fresh_is s cs p f =
      record {
        at = f.at;
        history = f.history;
        packets = subst (All (In Honest (s ∷ cs) [])) (sym f.packets) (All-nil (In Honest (s ∷ cs) []));
      }

  fresh_good : (nodes : List Node) → Good Honest nodes []
  fresh_good nodes = record { allowed = tt; carried = λ honest. tt }

  -- one client more
  fresh_more : (s : Node) (cs : List Node) (p q : Progress) (n : Node) → Fresh s cs p
      → FitsSetup n.setup → IsClientAt n.host n.setup.kind
      → q ≡ record p { stage = record p.stage { nodes = p.stage.nodes ++ n ∷ [] }; place = suc p.place }
      → Fresh s (cs ++ n ∷ []) q
  fresh_more s cs p q n f fits client same =
      subst (λ r. Fresh s (cs ++ n ∷ []) r) (sym same)
      (record {
        at = ap (λ ns. ns ++ n ∷ []) f.at;
        history = f.history;
        packets = f.packets;
        late = f.late;
        server = f.server;
        fits = f.fits;
        clients = clients_more cs n f.clients client fits;
      })

  -- the nodes of a plan without more clients
  alone : (nodes : List Node → Type 0) (s : Node) (cs : List Node) → nodes (s ∷ cs) → nodes (s ∷ (cs ++ []))
  alone nodes s cs there = subst (λ ds. nodes (s ∷ ds)) (sym (append-nil cs)) there

  -- one line that makes a client, and those behind it
  client_goes : (n s : Node) (cs behind_it : List Node) (p q : Progress) (es more : List Noted) (went : Went)
      → Fresh s cs p → IsClientAt n.host n.setup.kind → (FitsLimits n.setup.limits → FitsSetup n.setup)
      → (es ≡ []) × ((To q ≡ made_node p (adds p.late n p.stage)) ⊎ (◌≡◌ {A = Came Progress} (To q) Cut))
      → ((ds : List Node) → Fresh s ds q → Kept (s ∷ (ds ++ behind_it)) more went)
      → Kept (s ∷ (cs ++ n ∷ behind_it)) (es ++ more) went
  client_goes n s cs behind_it p q es more went f at fits (none, inr same) again = absurd cc
  client_goes n s cs behind_it p q es more went f at fits (none, inl same) again =
      of (has_room n.setup.limits p.stage.nodes) refl
      (subst (λ b. To q ≡ made_node p (adds b n p.stage)) f.late same)
    where
      -- with it
      with_it : Progress
      with_it =
          record p {
            stage = record p.stage { nodes = p.stage.nodes ++ n ∷ [] };
            place = suc p.place;
          }

      of : (b : Bool) → has_room n.setup.limits p.stage.nodes ≡ b
          → To q ≡ made_node p (if b then To (record p.stage { nodes = p.stage.nodes ++ n ∷ [] })
          else Refused causes.Slots)
          → Kept (s ∷ (cs ++ n ∷ behind_it)) (es ++ more) went
      of false room made = absurd cc
      of true room made =
          (let same_q : q ≡ with_it = cc in
          subst (λ xs. Kept (s ∷ (cs ++ n ∷ behind_it)) (xs ++ more) went) (sym none)
          (subst (λ ds. Kept (s ∷ ds) more went) (append_assoc cs (n ∷ []) behind_it)
          (again (cs ++ n ∷ [])
          (fresh_more s cs p q n f (fits (room_fits n.setup.limits p.stage.nodes room)) at same_q))))

  -- a line that makes no node, and those behind it
  late_line_goes : (g : Handlers) (line : PlanLine) (ls : List Numbered) (s : Node) (cs : List Node)
      (p q : Progress) (es more : List Noted) (went : Went) → Fresh s cs p → (Honest → IsUnforged (line_kind line))
      → (Honest → AreUnforged ls)
      → Then (line_part g p.place line p.stage)
      (λ t. ends (To (record { stage = t; late = true; place = suc p.place }))) es (To q)
      → Goes g ls q more went → IsSound (s ∷ cs) (es ++ more) went
  late_line_goes g line ls s cs p q es more went f fair fair_rest one rest =
      (let b : Ends Honest (s ∷ cs) (IsLate Honest (s ∷ cs)) (behind es []) (To q) =
      line_next_safe Honest (s ∷ cs) g line [] p fair (fresh_good (s ∷ cs)) (fresh_is s cs p f) es (To q) one in
      let w : WentWell Honest (s ∷ cs) (behind more (behind es [])) went =
      late_goes Honest (s ∷ cs) g ls q more went rest (behind es []) fair_rest b.good b.came in
      record {
        are = are_nodes s cs f.server f.fits f.clients;
        good = subst (Good Honest (s ∷ cs)) (sym (behind_both es more [])) w.good;
        whole =
            subst (λ (h : List Noted). IfWhole (λ t. (t.nodes ≡ s ∷ cs) × (t.history ≡ h)) went)
            (sym (behind_both es more [])) w.whole;
      })

  -- one line that went well, and those behind it
  next_goes : (g : Handlers) (line : PlanLine) (ls : List Numbered) (s : Node) (cs : List Node) (p q : Progress)
      (es more : List Noted) (went : Went) → Fresh s cs p → IsInRange (line_kind line)
      → (Honest → IsUnforged (line_kind line)) → (Honest → AreUnforged ls) → next_part g line p es (To q)
      → Goes g ls q more went
      → ((ds : List Node) → Fresh s ds q → Kept (s ∷ (ds ++ plan_clients ls)) more went)
      → Kept (s ∷ (cs ++ client_before (line_kind line) (plan_clients ls))) (es ++ more) went
  next_goes g (lines.Client host epoch limits key) ls s cs p q es more went f well fair fair_rest one rest again =
      client_goes (client_node host epoch limits key) s cs (plan_clients ls) p q es more went f refl
      (λ fits. record { kind = well; limits = fits; class = class_fits key }) one again
  next_goes g line ls s cs p q es more went f well fair fair_rest one rest again =
      inr (alone (λ ns. IsSound ns (es ++ more) went) s cs
      (late_line_goes g line ls s cs p q es more went f fair fair_rest one rest))

  -- one line that didn't, whatever was to come
  ended_goes : (g : Handlers) (line : PlanLine) (more_clients : List Node) (s : Node) (cs : List Node) (p : Progress)
      (es : List Noted) (out : Came Progress) (went : Went) → Fresh s cs p → (Honest → IsUnforged (line_kind line))
      → ((P : Stage → Type 0) → IfWhole P went) → next_part g line p es out
      → Kept (s ∷ (cs ++ client_before (line_kind line) more_clients)) es went
  ended_goes g (lines.Client host epoch limits key) more_clients s cs p es out went f fair not_whole one =
      inl (one.0, not_whole (λ t. ⊥))
  ended_goes g line more_clients s cs p es out went f fair not_whole one =
      (let b : Ends Honest (s ∷ cs) (IsLate Honest (s ∷ cs)) (behind es []) out =
      line_next_safe Honest (s ∷ cs) g line [] p fair (fresh_good (s ∷ cs)) (fresh_is s cs p f) es out one in
      inr (alone (λ ns. IsSound ns es went) s cs
      (record {
        are = are_nodes s cs f.server f.fits f.clients;
        good = b.good;
        whole = not_whole (λ t. (t.nodes ≡ s ∷ cs) × (t.history ≡ behind es []));
      })))

  fresh_goes : (g : Handlers) (s : Node) {ls : List Numbered} {p : Progress} {es : List Noted} {went : Went}
      → Goes g ls p es went → (cs : List Node) → Fresh s cs p → (Honest → AreUnforged ls) → AreInRange ls
      → Kept (s ∷ (cs ++ plan_clients ls)) es went
  fresh_goes g s (all p) cs f fair well =
      inr (alone (λ ns. IsSound ns [] (Whole p.stage)) s cs
      (record {
        are = are_nodes s cs f.server f.fits f.clients;
        good = fresh_good (s ∷ cs);
        whole = (f.at, f.history);
      }))
  fresh_goes g s (next l ls p q es more went one rest) cs f fair well =
      next_goes g l.what ls s cs p q es more went f (All-head (λ k. IsInRange (line_kind k.what)) l ls well)
      (first_fair Honest l ls fair)
      (rest_fair Honest l ls fair) one rest
      (λ ds more_fresh.
      fresh_goes g s rest ds more_fresh (rest_fair Honest l ls fair)
      (All-tail (λ k. IsInRange (line_kind k.what)) l ls well))
  fresh_goes g s (refused l ls p es why one) cs f fair well =
      ended_goes g l.what (plan_clients ls) s cs p es (Refused why) (RefusedAt l.line why) f
      (first_fair Honest l ls fair) (λ P. tt) one
  fresh_goes g s (cut l ls p es one) cs f fair well =
      ended_goes g l.what (plan_clients ls) s cs p es Cut CutOff f
      (first_fair Honest l ls fair) (λ P. tt) one
  fresh_goes g s (endless l ls p es one) cs f fair well =
      ended_goes g l.what (plan_clients ls) s cs p es Endless EndlessIn f
      (first_fair Honest l ls fair) (λ P. tt) one

  -- ---- a whole plan

  nothing : (nodes : List Node) (es : List Noted) (went its : Went) → ((P : Stage → Type 0) → IfWhole P its) → es ≡ []
      → went ≡ its → Kept nodes es went
  nothing nodes es went its not_whole none same =
      inl (none, subst (IfWhole (λ s. ⊥)) (sym same) (not_whole (λ s. ⊥)))

  server_goes : (g : Handlers) (n : Node) (line : ℕ) (ls : List Numbered) (es : List Noted) (went : Went)
      → (Honest → AreUnforged ls) → AreInRange ls → IsServer n.setup.kind
      → (FitsLimits n.setup.limits → FitsSetup n.setup)
      → goes_from g line ls (if has_room n.setup.limits [] then To (begun n) else Refused causes.Slots) es went
      → Kept (n ∷ plan_clients ls) es went
  server_goes g n line ls es went fair well server fits goes = of (has_room n.setup.limits []) refl goes
    where
      of : (b : Bool) → has_room n.setup.limits [] ≡ b
          → goes_from g line ls (if b then To (begun n) else Refused causes.Slots) es went
          → Kept (n ∷ plan_clients ls) es went
      of false room made = nothing _ es went (RefusedAt line causes.Slots) (λ P. tt) made.0 made.1
      of true room made =
          fresh_goes g n made []
          (record {
            at = refl;
            history = refl;
            packets = refl;
            late = refl;
            server = server;
            fits = fits (room_fits n.setup.limits [] room);
            clients = tt;
          }) fair well

  first_goes : (g : Handlers) (what : PlanLine) (line : ℕ) (ls : List Numbered) (es : List Noted) (went : Went)
      → (Honest → AreUnforged ls) → AreInRange ls → IsInRange (line_kind what)
      → goes_from g line ls (begins what) es went
      → Kept (server_before (line_kind what) (plan_clients ls)) es went
  first_goes g (lines.Server host service limits key nonce) line ls es went fair well one goes =
      server_goes g (server_node host service limits key nonce) line ls es went fair well tt
      (λ fits. record { kind = one; limits = fits; class = class_fits key }) goes
  first_goes g what line ls es went fair well one goes =
      nothing _ es went (RefusedAt line causes.NoNode) (λ P. tt) goes.0 goes.1

  pub plan_kept : (g : Handlers) (ls : List Numbered) (es : List Noted) (went : Went) → (Honest → AreUnforged ls)
      → AreInRange ls → plan_goes g ls es went → Kept (plan_nodes ls) es went
  plan_kept g [] es went fair well goes = nothing [] es went Empty (λ P. tt) goes.0 goes.1
  plan_kept g (l ∷ ls) es went fair well (inl goes) =
      first_goes g l.what l.line ls es went (rest_fair Honest l ls fair)
      (All-tail (λ k. IsInRange (line_kind k.what)) l ls well)
      (All-head (λ k. IsInRange (line_kind k.what)) l ls well) goes
  plan_kept g (l ∷ ls) es went fair well (inr goes) =
      nothing _ es went CutOff (λ P. tt) goes.0 goes.1
