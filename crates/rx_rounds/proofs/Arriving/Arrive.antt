-- A request that a plan writes arrives, or its handler refuses it.
use Rattle.std.proofs.Common.{◌≡◌, ◌≢◌, ◌<◌, ◌≤◌, ◌*◌, ◌+◌, ◌^◌, ◌⊎◌, ◌++◌, ◌==◌, ℕ, suc, zero, Bool, true, false, cond}
use Rattle.std.proofs.Common.{List, []}
use Rattle.std.proofs.Common.{◌∷◌, refl, ap, sym, subst, ◌∙◌, inl, inr, Option, Some, None, length, reverse, arith}
use Rattle.std.proofs.Common.{slice_get, is_some}
use Rattle.std.proofs.Common.{All, IsSomeAnd}
use Rattle.std.proofs.lemmas.List.Elements.{All-head, All-tail}
use Rattle.rx_model.specs.declared.event.Event.{Event}
use Rattle.rx_model.specs.declared.event.Event.TheVariants as events
use Rattle.rx_model.specs.declared.event.Noted.{Noted}
use Rattle.rx_model.specs.declared.names.CallName.{CallName}
use Rattle.rx_model.specs.declared.names.Host.{Host}
use Rattle.std.proofs.Common.{Ok, Err}
use Rattle.rx_rules.specs.After.{looks}
use Rattle.rx_rules.specs.CallLooks.{CallLooks, after_shut, after_write}
use Rattle.rx_rules.specs.Life as lives
use Rattle.rx_rules.specs.Looks.{CallRecord, Looks, call_at}
use Rattle.rx_rules.specs.Received.{Piece, packet_at}
use Rattle.rx_rules.proofs.EveryLaws.{Every, every-append}
use Rattle.rx_history.specs.Sides.{Node, side}
use Rattle.rx_law.specs.Worlds.{World}
use Rattle.rx_history.proofs.Ends.{ends_of}
use Rattle.rx_script.specs.declared.plan.Numbered.{Numbered}
use Rattle.rx_script.specs.declared.plan.PlanLine.TheVariants as lines
use Rattle.rx_jobs.specs.Handlers.{Handlers}
use Rattle.rx_plan.specs.Follows.{Went, Whole, plan_goes}
use Rattle.rx_plan.specs.Lines.{IsWell}
use Rattle.rx_plan.specs.Promises.{AreDistinct, AreUnforged, IsUnforged, line_kind, plan_nodes}
use Rattle.rx_plan.specs.Rounds.{rounds}
use Rattle.rx_plan.specs.Stages.{Stage}
use Rattle.rx_plan.specs.declared.call.ClientCall.{ClientCall}
use Rattle.rx_plan.proofs.Givings.Promised.{plans_end, plans_world}
use Rattle.rx_plan.proofs.Soundness.SoundPlan.{lines_in_range}
use Rattle.rx_rounds.proofs.Keeper.{piece}
use Rattle.rx_rounds.specs.Arriving.{ArrivesBy, KeepsAll, HasRefused, PlansArrive, RequestArrived}
use Rattle.rx_rounds.specs.Bounds.{default_limits, pieces}
use Rattle.rx_rounds.proofs.Growing.{AnswersNone, Grew, grew_rounds}
use Rattle.rx_rounds.proofs.KeepsOn.{keeps_all}
use Rattle.rx_plan.specs.Follows.{client_node, server_node}
use Rattle.rx_plan.specs.Stages.{InvokedState}
use Rattle.rx_jobs.specs.Jobs.{JobState}
use Rattle.rx_rounds.proofs.One.OneCall.{Ends, from_client, from_server, node_of, the_call, the_record}
use Rattle.rx_rounds.proofs.Keys.KeyFirst.{begins_keyed}
use Rattle.rx_rounds.proofs.Keys.KeySteps.{answers}
use Rattle.rx_rounds.proofs.One.OneFirst.{begins_arriving}
use Rattle.rx_rounds.proofs.One.OneRequest.{WentFurther}
use Rattle.rx_rounds.proofs.One.OneFields.{FitsEnds, fresh}
use Rattle.rx_rounds.proofs.One.OneRefused.{Arrived, arrived, was_kept, was_refused}
use Rattle.rx_rounds.proofs.One.OneSteps.{call_is, empty_at}
use Rattle.rx_rounds.proofs.Lines.LinesLink.{LinkNumbers}
use Rattle.rx_rounds.proofs.One.OneWrite.{behind_shut, lines_go, the_ends, the_lines, two_shut}
use Rattle.rx_rounds.proofs.Lines.PlanLines.{all_of, first_is, none_is, unlike}
use Rattle.rx_rounds.proofs.OtherCalls.{CallsOnly}
use Rattle.rx_rounds.proofs.Rounded.{Made}
use Rattle.rx_rounds.proofs.Two.{AreApart, Two}
use Rattle.rx_law.proofs.Law.{side-split}

-- ---- events that answer no call

none_other : (c : CallName) (e : Event) → AnswersNone e → CallsOnly c e
none_other c (events.Called cid (Ok d)) none = absurd none
none_other c (events.Called cid (Err refused)) none = tt
none_other c _ none = tt

quiet_side : (c : CallName) (k : ℕ) (es : List Noted) → Every (λ (n : Noted). AnswersNone n.event) es
    → Every (CallsOnly c) (side k es)
quiet_side c k [] quiet = tt
quiet_side c k (e ∷ es) quiet = of (e.node == k) (quiet_side c k es quiet.1)
  where
    of : (b : Bool) → Every (CallsOnly c) (side k es) → Every (CallsOnly c) (cond b (e.event ∷ side k es) (side k es))
    of true rest = (none_other c e.event quiet.0, rest)
    of false rest = rest

module _ (g : Handlers) (at : Host) (service nonce : ℕ) (from : Host) (epoch first : ℕ)
    (key : Option (List ℕ)) (offer : List ℕ) (n : ℕ)
    (a1 a2 a3 a4 a5 a6 a7 : ℕ) (short : length offer ≤ 45184) (differ : at ≢ from) (long : 2 * pieces offer + 4 ≤ n)
  where
    abbrev x : Ends
    x = the_ends g at service nonce from epoch first key offer n a1 a2 a3 a4 a5 a6 a7 short

    abbrev c : CallName
    c = the_call x

    abbrev ls : List Numbered
    ls = the_lines g at service nonce from epoch first key offer n a1 a2 a3 a4 a5 a6 a7 short

    abbrev shut_stage : Stage
    shut_stage = behind_shut g at service nonce from epoch first key offer n a1 a2 a3 a4 a5 a6 a7 short

    abbrev nodes : List Node
    nodes = plan_nodes ls

    two : Two x (empty_at 0) (node_of x (from_client x 0 0) [] 0 lives.Calling (after_shut (after_write offer fresh)))
        [] [] shut_stage
    two = two_shut g at service nonce from epoch first key offer n a1 a2 a3 a4 a5 a6 a7 short

    apart : AreApart x
    apart = (unlike from at (λ same. differ (sym same)), unlike at from differ)

    unforged : AreUnforged ls
    unforged = all_of (λ (l : Numbered). IsUnforged (line_kind l.what)) ls (tt, (tt, (tt, (tt, (tt, (tt, (tt, tt)))))))

    distinct : AreDistinct nodes
    distinct zero zero j_k = tt
    distinct zero (suc zero) j_k = tt
    distinct zero (suc (suc k)) j_k = tt
    distinct (suc zero) zero j_k = tt
    distinct (suc zero) (suc zero) j_k = absurd (j_k refl)
    distinct (suc zero) (suc (suc k)) j_k = tt
    distinct (suc (suc j)) k j_k = tt

    its_calls : (s : Stage) → Grew shut_stage s → Every (CallsOnly c) (side 1 s.history)
    its_calls s grew =
        subst (λ (h : List Noted). Every (CallsOnly c) (side 1 h)) (sym grew.is)
        (subst (λ (es : List Event). Every (CallsOnly c) es) (sym (side-split 1 grew.more shut_stage.history))
        (every-append (CallsOnly c) (side 1 grew.more) (side 1 shut_stage.history) (quiet_side c 1 grew.more grew.quiet)
        (tt, (tt, (refl, (tt, tt))))))

    abbrev client : Node
    client = client_node from epoch default_limits key

    abbrev server : Node
    server = server_node at service default_limits key nonce

    abbrev said_it : CallLooks
    said_it = after_shut (after_write offer fresh)

    client_call : call_at (looks client.setup (side 1 shut_stage.history)) c ≡ Some (the_record x lives.Calling said_it)
    client_call = ap (λ (l : Looks). call_at l c) two.client ∙ call_is x (from_client x 0 0) [] 0 lives.Calling said_it

    -- a stage at which the server keeps all
    keeps : (s t : Stage) (k : CallLooks) (given : ℕ) (lc : Looks) (cs : List InvokedState) (js : List JobState)
        → World nodes t.history
        → Grew shut_stage t → Grew s t
        → Two x (node_of x (from_server x given 0) (c ∷ []) 0 lives.Accepted k) lc cs js s
        → ((j : ℕ) → 1 ≤ j → j ≤ pieces offer → packet_at k.received.kept j ≡ Some (piece offer j))
        → KeepsAll server t.history c offer
    keeps s t k given lc cs js w grew since two_ has j low high =
        let there : call_at (looks server.setup (side 0 s.history)) c ≡ Some (the_record x lives.Accepted k) =
        ap (λ (l : Looks). call_at l c) two_.server ∙ call_is x (from_server x given 0) (c ∷ []) 0 lives.Accepted k in
        keeps_all nodes client server c refl refl refl (λ i. refl) w.sides.nodes_are distinct offer t.history
        shut_stage.history
        s.history grew.more since.more w (its_calls t grew) grew.is (
          ap (λ (o : Option CallRecord). (ends_of o).said) client_call,
          ap (λ (o : Option CallRecord). (ends_of o).shut)
              client_call,
        )
        since.is
        (λ i from_ to_. ap (λ (o : Option CallRecord). is_some (packet_at (ends_of o).kept i)) there
        ∙ ap (λ (o : Option Piece). is_some o) (has i from_ to_)) j low high

    some_events : (more : List Noted) → more ++ shut_stage.history ≡ [] → ⊥
    some_events [] is = cc
    some_events (e ∷ more) is = cc

    world : (es : List Noted) (s : Stage) → Grew shut_stage s → s.history ≡ reverse es
        → (es ≡ []) ⊎ World nodes (reverse es)
        → World nodes s.history
    world es s grew history (inr w) = subst (World nodes) (sym history) w
    world es s grew history (inl none) =
        let empty : s.history ≡ [] = history ∙ ap (λ (xs : List Noted). reverse xs) none in
        absurd (some_events grew.more (sym grew.is ∙ empty))

    kept_or : (s : Stage) → Grew shut_stage s → World nodes s.history → Arrived x offer s
        → KeepsAll server s.history c offer ⊎ HasRefused (side 0 s.history) c
    kept_or s grew w (was_refused refused) = inr refused
    kept_or s grew w (was_kept u k given lc cs js two_ has since) = inl
        (keeps u s k given lc cs js w grew since two_ has)

    few_epochs : All (λ l. IsWell g l.what) ls → epoch < 2 ^ 32
    few_epochs well =
        All-head (λ (l : Numbered). IsWell g l.what) l_client l_rest
        (All-tail (λ (l : Numbered). IsWell g l.what) l_server (l_client ∷ l_rest) well)
      where
        l_server : Numbered
        l_server = record { line = a1; what = lines.Server at service default_limits key nonce }

        l_client : Numbered
        l_client = record { line = a2; what = lines.Client from epoch default_limits key }

        l_rest : List Numbered
        l_rest =
            record { line = a3; what = lines.Connect 1 first } ∷ record { line = a4; what = lines.Call 1 4 }
            ∷ record { line = a5; what = lines.Write 1 offer } ∷ record { line = a6; what = lines.Shut 1 }
            ∷ record { line = a7; what = lines.Rounds n } ∷ []

    whole : (es : List Noted) (s : Stage) → All (λ l. IsWell g l.what) ls → plan_goes g ls es (Whole s)
        → LinkNumbers service first
        → Made (rounds g n) shut_stage s → RequestArrived ls offer s
    whole es s well goes link made =
        let grew : Grew shut_stage s = grew_rounds g n shut_stage s made in
        let fits : FitsEnds x = record {
          epoch = few_epochs well;
          service = link.service_fits;
          some = link.some;
          first = link.few;
        } in
        let history : s.history ≡ reverse es = plans_end g ls es s (lines_in_range g ls well) goes in
        let w : World nodes s.history = world es s grew history
        (plans_world g ls es (Whole s) (lines_in_range g ls well) unforged distinct goes) in
        subst (λ (ks : List ClientCall). IsSomeAnd (slice_get ks 0)
        (λ (k : ClientCall). KeepsAll server s.history k.name offer ⊎ HasRefused (side 0 s.history) k.name))
        (sym grew.calls)
        (kept_or s grew w (arrived x g offer s (goes_further fits key refl)))
      where
        goes_further : FitsEnds x → (o : Option (List ℕ)) → key ≡ o → WentFurther x g offer s
        goes_further fits None is =
            begins_arriving x g fits apart offer n shut_stage s is (omega arith) (omega arith) two made
        goes_further fits (Some own) is =
            (let a = answers x own is in
            begins_keyed x g fits apart offer a.0 a.1 (ap (λ (o : Option (List ℕ)). is_some o) is) n shut_stage s
            (omega arith) (omega arith) two made)

    pub arrive_lines : (es : List Noted) (went : Went) → All (λ l. IsWell g l.what) ls → plan_goes g ls es went
        → ArrivesBy ls offer went
    arrive_lines es went well goes =
        lines_go g at service nonce from epoch first key offer n a1 a2 a3 a4 a5 a6 a7 short es went
        (λ (w : Went). plan_goes g ls es w → ArrivesBy ls offer w) (λ off. tt) (λ off. tt) goes
        (λ s link made all. whole es s well all link made) goes

pub arrive : PlansArrive
arrive g ls es went offer n well w goes =
    let f1 = first_is ls _ _ w.says in
    let f2 = first_is f1.rest _ _ f1.more in
    let f3 = first_is f2.rest _ _ f2.more in
    let f4 = first_is f3.rest _ _ f3.more in
    let f5 = first_is f4.rest _ _ f4.more in
    let f6 = first_is f5.rest _ _ f5.more in
    let f7 = first_is f6.rest _ _ f6.more in
    let is : ls ≡ the_lines g w.at w.service w.nonce w.from w.epoch w.first w.key offer n f1.number f2.number f3.number
    f4.number f5.number f6.number f7.number w.short =
    f1.is ∙ ap (λ (r : List Numbered). record
    { line = f1.number; what = lines.Server w.at w.service default_limits w.key w.nonce } ∷ r)
    (f2.is ∙ ap (λ (r : List Numbered). record
    { line = f2.number; what = lines.Client w.from w.epoch default_limits w.key } ∷ r)
    (f3.is ∙ ap (λ (r : List Numbered). record { line = f3.number; what = lines.Connect 1 w.first } ∷ r)
    (f4.is ∙ ap (λ (r : List Numbered). record { line = f4.number; what = lines.Call 1 4 } ∷ r)
    (f5.is ∙ ap (λ (r : List Numbered). record { line = f5.number; what = lines.Write 1 offer } ∷ r)
    (f6.is ∙ ap (λ (r : List Numbered). record { line = f6.number; what = lines.Shut 1 } ∷ r)
    (f7.is ∙ ap (λ (r : List Numbered). record { line = f7.number; what = lines.Rounds n } ∷ r)
    (none_is f7.rest f7.more))))))) in
    subst (λ (ks : List Numbered). ArrivesBy ks offer went) (sym is)
    (arrive_lines g w.at w.service w.nonce w.from w.epoch w.first w.key offer n f1.number f2.number f3.number f4.number
    f5.number f6.number f7.number w.short w.apart w.long
    es went (subst (λ (ks : List Numbered). All (λ l. IsWell g l.what) ks) is well)
    (subst (λ (ks : List Numbered). plan_goes g ks es went) is goes))
