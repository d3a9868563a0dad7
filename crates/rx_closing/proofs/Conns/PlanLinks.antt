-- The connections of a driven plan and of rounds behind it are with the server's host, line by line.
use Rattle.std.proofs.Common.{◌≡◌, ◌⊎◌, ◌==◌, if◌then◌else◌, cond, ℕ, suc, Bool, true, false, List, [], ◌∷◌, ◌++◌}
use Rattle.std.proofs.Common.{length, Some, refl, inl, inr, sym, subst, slice_get, option_map}
use Rattle.std.proofs.lemmas.List.Elements.{All-head, All-tail}
use Rattle.rx_model.specs.declared.event.Noted.{Noted}
use Rattle.rx_model.specs.declared.names.Host.{Host}
use Rattle.rx_rules.proofs.EveryLaws.{Every}
use Rattle.rx_jobs.specs.Handlers.{Handlers}
use Rattle.rx_history.specs.Sides.{Node, side}
use Rattle.rx_script.specs.declared.outcome.PlanWhy.TheVariants as causes
use Rattle.rx_script.specs.declared.plan.Numbered.{Numbered}
use Rattle.rx_script.specs.declared.plan.PlanLine.{PlanLine}
use Rattle.rx_script.specs.declared.plan.PlanLine.TheVariants as lines
use Rattle.rx_plan.specs.Answering.{AreDriven, IsDriven}
use Rattle.rx_plan.specs.Follows.{Goes, Progress, Went, Whole, adds, all, begins, begun, client_node, cut, goes_from}
use Rattle.rx_plan.specs.Follows.{endless, has_room, made_node, next, next_part, plan_goes, refused, server_node}
use Rattle.rx_plan.specs.Lines.{line_part}
use Rattle.rx_plan.specs.Parts.{Came, To, Refused, Cut, Then, ends}
use Rattle.rx_plan.specs.Stages.{Stage}
use Rattle.rx_plan.proofs.Leading.{Leads, ends_lead, then_lead}
use Rattle.rx_plan.proofs.Soundness.SoundPlan.{IfWhole}
use Rattle.rx_rounds.proofs.Rounded.{RoundMade}
use Rattle.rx_closing.proofs.Conns.PeersTo.{LinksAt}
use Rattle.rx_closing.proofs.Conns.PlanPeers.{AreLinked, Linked, LinksHost, line_links, settles_link, tame_step}
use Rattle.rx_closing.proofs.Rounds.TameParts.{deliveries_lead, polls_lead, serve_lead, turns_at_lead}

module _ (g : Handlers) where
  -- what a run has come to, where nothing was made before the first line that makes no node
  record IsGoing (p : Progress) : Type 0 where
    early : p.late ≡ false → p.stage.history ≡ []
    so : AreLinked p.stage

  empty_linked : (s : Stage) → s.history ≡ [] → AreLinked s
  empty_linked s none = subst (λ (h : List Noted). Every (λ e. LinksHost s.nodes e.event) h) (sym none) tt

  client_next : (n : Node) (p q : Progress) → IsGoing p → To q ≡ made_node p (adds p.late n p.stage) → IsGoing q
  client_next n p q i is = by p.late refl is
    where
      by : (late : Bool) → p.late ≡ late → To q ≡ made_node p (adds late n p.stage) → IsGoing q
      by true late is = absurd cc
      by false late is = room (has_room n.setup.limits p.stage.nodes) is
        where
          stage : Stage
          stage = record p.stage { nodes = p.stage.nodes ++ n ∷ [] }

          with_it : Progress
          with_it = record p { stage = stage; place = suc p.place }

          none_yet : stage.history ≡ []
          none_yet = i.early late

          room : (b : Bool) → To q ≡ made_node p (if b then To stage else Refused causes.Slots) → IsGoing q
          room false is = absurd cc
          room true is =
              (let same : q ≡ with_it = cc in
              subst IsGoing (sym same) (record { early = λ later. none_yet; so = empty_linked stage none_yet }))

  line_next : (line : PlanLine) (p : Progress) → IsDriven line → IsGoing p
      → Leads IsGoing
      (Then (line_part g p.place line p.stage)
      (λ s. ends (To (record { stage = s; late = true; place = suc p.place }))))
  line_next line p driven i =
      then_lead AreLinked IsGoing (line_part g p.place line p.stage) _
      (line_links g p.place line p.stage driven i.so)
      (λ s there. ends_lead IsGoing _ (record { early = λ late. absurd cc; so = there }))

  next_links : (line : PlanLine) (p : Progress) → IsDriven line → IsGoing p → Leads IsGoing (next_part g line p)
  next_links (lines.Client host epoch limits key) p driven i es q made = of made.1
    where
      of : (To q ≡ made_node p (adds p.late (client_node host epoch limits key) p.stage))
          ⊎ (◌≡◌ {A = Came Progress} (To q) Cut)
          → IsGoing q
      of (inl is) = client_next (client_node host epoch limits key) p q i is
      of (inr none) = absurd cc
  next_links line p driven i es q made = line_next line p driven i es q made

  lines_link : {rest : List Numbered} {p : Progress} {es : List Noted} {went : Went} → Goes g rest p es went
      → AreDriven rest → IsGoing p → IfWhole AreLinked went
  lines_link (all p) driven i = i.so
  lines_link (next l rest p q es more went one behind) driven i =
      lines_link behind (All-tail (λ k. IsDriven k.what) l rest driven)
      (next_links l.what p (All-head (λ k. IsDriven k.what) l rest driven) i es q one)
  lines_link (refused l rest p es why one) driven i = tt
  lines_link (cut l rest p es one) driven i = tt
  lines_link (endless l rest p es one) driven i = tt

-- of a driven plan whose lines were all made
pub plan_links : (g : Handlers) (ls : List Numbered) (es : List Noted) (s : Stage) → AreDriven ls
    → plan_goes g ls es (Whole s) → AreLinked s
plan_links g [] es s driven goes = absurd (let is = goes.1 in cc)
plan_links g (l ∷ rest) es s driven (inr goes) = absurd (let is = goes.1 in cc)
plan_links g (l ∷ rest) es s driven (inl goes) = first l.what goes
  where
    first : (what : PlanLine) → goes_from g l.line rest (begins what) es (Whole s) → AreLinked s
    first (lines.Server host service limits key nonce) goes = room (has_room limits []) goes
      where
        n : Node
        n = server_node host service limits key nonce

        room : (b : Bool) → goes_from g l.line rest (if b then To (begun n) else Refused causes.Slots) es (Whole s)
            → AreLinked s
        room false goes = absurd (let is = goes.1 in cc)
        room true goes =
            lines_link g goes (All-tail (λ k. IsDriven k.what) l rest driven)
            (record { early = λ late. refl; so = empty_linked g (begun n) refl })
    first what goes = absurd (let is = goes.1 in cc)

-- behind each part of a round
pub record LinkedRound (g : Handlers) (s t : Stage) (r : RoundMade g s t) : Type 0 where
  pub polled : AreLinked r.polled.stage
  pub delivered : AreLinked r.delivered
  pub served : AreLinked r.served
  pub called : AreLinked r.called
  pub over : AreLinked t

pub linked_round : (g : Handlers) (s t : Stage) (r : RoundMade g s t) → AreLinked s → LinkedRound g s t r
linked_round g s t r so =
    (let polled : AreLinked r.polled.stage = polls_lead g Linked tame_step s so r.polls_are.0 r.polled r.polls_are.1 in
    let delivered : AreLinked r.delivered =
    deliveries_lead g Linked tame_step r.polled.given r.polled.stage polled r.delivers_are.0 r.delivered
    r.delivers_are.1 in
    let served : AreLinked r.served =
    serve_lead g Linked tame_step r.delivered delivered r.serves_are.0 r.served r.serves_are.1 in
    let called : AreLinked r.called =
    turns_at_lead g Linked tame_step r.served served r.calls_are.0 r.called r.calls_are.1 in
    record {
      polled = polled;
      delivered = delivered;
      served = served;
      called = called;
      over = settles_link g (length r.polled.given == 0) r.called called r.settles_are.0 t r.settles_are.1;
    })

-- so each connection of a node is
pub links_side : (k : ℕ) (h : Host) (nodes : List Node) (es : List Noted)
    → option_map (λ (n : Node). n.host) (slice_get nodes 0) ≡ Some h → Every (λ e. LinksHost nodes e.event) es
    → Every (LinksAt h) (side k es)
links_side k h nodes [] host links = tt
links_side k h nodes (e ∷ es) host links = by (e.node == k) (links_side k h nodes es host links.1)
  where
    by : (b : Bool) → Every (LinksAt h) (side k es) → Every (LinksAt h) (cond b (e.event ∷ side k es) (side k es))
    by true rest = (links.0 h host, rest)
    by false rest = rest
