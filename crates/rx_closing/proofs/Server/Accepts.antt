-- What a dispatcher accepts, as one call of its server has it: calls of others alone, and then it doesn't wait with its
-- packet 1 kept; or the call among them.
use Rattle.std.proofs.Common.{◌≡◌, ◌∷◌, ◌++◌, ◌&&◌, ◌||◌, cond, not, ℕ, Bool, true, false, List, [], refl, ap, sym, ◌∙◌}
use Rattle.std.proofs.Common.{Option, Some, None, option_map, append-nil, append_assoc}
use Rattle.std.specs.List.{find}
use Rattle.std.specs.Prelude.{slice_get}
use Rattle.rx_model.specs.declared.event.Event.TheVariants as events
use Rattle.rx_model.specs.declared.names.CallName.{CallName}
use Rattle.rx_model.specs.Names.{connection_of, same_name}
use Rattle.rx_model.proofs.NameLaws.{name_is}
use Rattle.rx_rules.specs.After.{looks}
use Rattle.rx_rules.specs.CallLooks.{CallLooks}
use Rattle.rx_rules.specs.Life.{Life, after_accept, is_waiting}
use Rattle.rx_rules.specs.Life as lives
use Rattle.rx_rules.specs.Looks.{CallRecord, Looks, call_at, is_call, is_proved}
use Rattle.rx_rules.specs.Rules.{Legal, accept_answer, can_enter}
use Rattle.rx_rules.specs.Setup.{IsServer}
use Rattle.rx_history.proofs.Calls.{call-changed}
use Rattle.rx_history.proofs.Laws.OnceLaw.{is_call-some, waits}
use Rattle.rx_history.specs.Sides.{Node, side}
use Rattle.rx_jobs.specs.Handlers.{Handlers}
use Rattle.rx_jobs.specs.Jobs.{IsCall, JobState, begun}
use Rattle.rx_jobs.specs.Jobs as asks
use Rattle.rx_plan.specs.Stages.{IsAllowedNext, Stage, with_event}
use Rattle.rx_closing.proofs.Server.FirstsHold.{firsts_hold, has_first, is_among}
use Rattle.rx_closing.proofs.Server.JobSeen.{AreOthers, Stays}
use Rattle.rx_closing.proofs.Server.JobSteps.{Accepting, no_more, one_more}
use Rattle.rx_closing.proofs.Server.OwnEvents.{At, accept_at, allowed_server}
use Rattle.rx_closing.proofs.Server.OwnSeen.{Keeps, event_keeps, keeps_trans}

waiting_is : (x : Life) → is_waiting x ≡ true → x ≡ lives.Waiting
waiting_is lives.Waiting is = refl
waiting_is _ is = absurd cc

-- none of a list passes that has one which does
none_found : (p : CallName → Bool) (c : CallName) (xs : List CallName) → find p xs ≡ None → is_among c xs ≡ true
    → p c ≡ true → ⊥
none_found p c [] none there passes = cc
none_found p c (x ∷ xs) none there passes =
    by (λ rest among. none_found p c xs rest among passes) (p x) refl (same_name x c) refl none there
  where
    by : (find p xs ≡ None → is_among c xs ≡ true → ⊥) → (b : Bool) → p x ≡ b → (own : Bool) → same_name x c ≡ own
        → cond b (Some x) (find p xs) ≡ None → (own || is_among c xs) ≡ true → ⊥
    by again true is own same none there = cc
    by again false is true same none there =
        let mine : p x ≡ p c = ap p (name_is x c same) in
        let wrong : ◌≡◌ {A = Bool} true false = sym passes ∙ sym mine ∙ is in
        cc (wrong)
    by again false is false same none there = again none there

module _ (g : Handlers) (node : Node) (serves : IsServer node.setup.kind) (c : CallName) where
  abbrev l : Stage → Looks
  l s = looks node.setup (side 0 s.history)

  -- a stage at which the server doesn't challenge
  pub record IsOpenAt (s : Stage) : Type 0 where
    pub first : slice_get s.nodes 0 ≡ Some node
    pub legal : Legal node.setup (side 0 s.history)
    pub open_ : node.setup.class.challenges ≡ false

  -- what it accepts, by the call: others alone, and then the call doesn't wait with its packet 1 kept; or the call
  -- among them
  pub data AcceptsOf (jobs : List JobState) (s : Stage) (all : List JobState) (u : Stage) : Type 0 where
    accepts_others : (more : List JobState) → all ≡ jobs ++ more → AreOthers c more → Stays node.setup c s u
        → Keeps node s u
        → (is_call (λ r. is_waiting r.life) (call_at (l s) c) ≡ true → has_first (call_at (l s) c) ≡ false)
        → AcceptsOf jobs s all u
    accepts_it : (k : CallLooks) → At node serves c (l s).now s lives.Waiting k → (front back : List JobState)
        → all ≡ jobs ++ (front ++ begun c ∷ back) → AreOthers c front → AreOthers c back
        → At node serves c (l s).now u lives.Accepted k → Keeps node s u → AcceptsOf jobs s all u

  -- the rules of an accept
  answer_is : (s : Stage) (got : Option CallName) → slice_get s.nodes 0 ≡ Some node
      → IsAllowedNext s 0 (IsCall asks.accept) (events.Accepted got) → got ≡ accept_answer node.setup (l s)
  answer_is s got first allowed =
      allowed_server node serves c (l s).now s (events.Accepted got) first allowed.1

  -- where it accepts nothing, the call doesn't wait with its packet 1 kept
  none_first : (s : Stage) → IsOpenAt s → None ≡ accept_answer node.setup (l s)
      → is_call (λ r. is_waiting r.life) (call_at (l s) c) ≡ true → has_first (call_at (l s) c) ≡ false
  none_first s o answer waiting = by (has_first (call_at (l s) c)) refl
    where
      enters : can_enter node.setup (l s) c ≡ true
      enters =
          ap (λ (b : Bool). b && (not node.setup.class.challenges || is_proved (l s) (connection_of c))) waiting
          ∙ ap (λ (b : Bool). not b || is_proved (l s) (connection_of c)) o.open_

      by : (b : Bool) → has_first (call_at (l s) c) ≡ b → b ≡ false
      by false is = refl
      by true is =
          absurd (none_found (can_enter node.setup (l s)) c (l s).firsts (sym answer)
          (firsts_hold c node.setup (side 0 s.history) serves o.legal is) enters)

  -- behind an accept the stage is such a one
  open_on : (s : Stage) (got : Option CallName) → IsOpenAt s
      → IsAllowedNext s 0 (IsCall asks.accept) (events.Accepted got)
      → IsOpenAt (with_event 0 (events.Accepted got) s)
  open_on s got o allowed =
      record {
        first = o.first;
        legal = (event_keeps node s asks.accept (events.Accepted got) allowed).legal o.first o.legal;
        open_ = o.open_;
      }

  -- an accept of another leaves the call
  other_stays : (d : CallName) (s : Stage) → same_name c d ≡ false
      → Stays node.setup c s (with_event 0 (events.Accepted (Some d)) s)
  other_stays d s other =
      call-changed c d change (l s) (λ r. refl)
      ∙ ap (λ (b : Bool). cond b (option_map change (call_at (l s) c)) (call_at (l s) c)) other
    where
      change : CallRecord → CallRecord
      change r = record r { life = after_accept r.life }

  -- a call that waits behind what left it waited before
  waited_before : (s u : Stage) (k : CallLooks) → IsOpenAt s → Stays node.setup c s u → Keeps node s u
      → At node serves c (l u).now u lives.Waiting k → At node serves c (l s).now s lives.Waiting k
  waited_before s u k o stays keeps at =
      record {
        first = o.first;
        legal = o.legal;
        moment = refl;
        call = at.call;
        there = sym stays ∙ at.there;
        living = at.living;
        passed = at.passed;
      }

  -- an accepted call doesn't wait
  waits_none : (s : Stage) (k f : CallLooks) (now : ℕ) → At node serves c now s lives.Accepted k
      → At node serves c now s lives.Waiting f → ⊥
  waits_none s k f now at waiting =
      let found : ◌≡◌ {A = Option CallRecord} (Some at.call) (Some waiting.call) = sym at.there ∙ waiting.there in
      let one : at.call ≡ waiting.call = cc (found) in
      let wrong : lives.Accepted ≡ lives.Waiting =
      sym at.living ∙ ap (λ (r : CallRecord). r.life) one ∙ waiting.living in
      cc (wrong)

  -- all that it accepts from a stage on, seen from the call
  pub accepts_of : (jobs : List JobState) (s : Stage) (all : List JobState) (u : Stage) → IsOpenAt s
      → Accepting g jobs s all u → AcceptsOf jobs s all u
  accepts_of jobs s all u o (no_more x y allowed) =
      accepts_others [] (sym (append-nil jobs)) tt refl (event_keeps node s asks.accept (events.Accepted None) allowed)
      (none_first s o (answer_is s None o.first allowed))
  accepts_of jobs s all u o (one_more x y d all2 t allowed rest) =
      by (same_name c d) refl
      (accepts_of (jobs ++ begun d ∷ []) s1 all u (open_on s (Some d) o allowed) rest)
    where
      s1 : Stage
      s1 = with_event 0 (events.Accepted (Some d)) s

      keeps1 : Keeps node s s1
      keeps1 = event_keeps node s asks.accept (events.Accepted (Some d)) allowed

      -- the one that is accepted is the call
      mine : c ≡ d → AcceptsOf (jobs ++ begun d ∷ []) s1 all u → AcceptsOf jobs s all u
      mine own then_ = of then_
        where
          found : (r : CallRecord) × (call_at (l s) d ≡ Some r) × (is_waiting r.life ≡ true)
          found =
              is_call-some (call_at (l s) d)
              (waits node.setup (l s) d (answer_is s (Some d) o.first allowed))

          at : At node serves c (l s).now s lives.Waiting found.0.looks
          at =
              record {
                first = o.first;
                legal = o.legal;
                moment = refl;
                call = found.0;
                there = ap (λ (n : CallName). call_at (l s) n) own ∙ found.1;
                living = waiting_is found.0.life found.2;
                passed = refl;
              }

          at1 : At node serves c (l s).now s1 lives.Accepted found.0.looks
          at1 =
              accept_at node serves c (l s).now s found.0.looks (events.Accepted (Some d)) at
              (ap (λ (n : CallName). events.Accepted (Some n)) (sym own)) allowed.1

          of : AcceptsOf (jobs ++ begun d ∷ []) s1 all u → AcceptsOf jobs s all u
          of (accepts_others more are others stays keeps first) =
              accepts_it found.0.looks at [] more
              (are ∙ append_assoc jobs (begun d ∷ []) more
              ∙ ap (λ (n : CallName). jobs ++ begun n ∷ more) (sym own)) tt others
              (record {
                first = ap (λ ns. slice_get ns 0) keeps.nodes ∙ o.first;
                legal = keeps.legal o.first at1.legal;
                moment = keeps.moment ∙ at1.moment;
                call = at1.call;
                there = stays ∙ at1.there;
                living = at1.living;
                passed = at1.passed;
              }) (keeps_trans node s s1 u keeps1 keeps)
          of (accepts_it k waiting front back are before behind after_ keeps) =
              absurd (waits_none s1 found.0.looks k (l s).now at1 (record {
                first = waiting.first;
                legal = waiting.legal;
                moment = at1.moment;
                call = waiting.call;
                there = waiting.there;
                living = waiting.living;
                passed = waiting.passed;
              }))

      -- or another
      another : same_name c d ≡ false → AcceptsOf (jobs ++ begun d ∷ []) s1 all u → AcceptsOf jobs s all u
      another other then_ = of then_
        where
          still : Stays node.setup c s s1
          still = other_stays d s other

          of : AcceptsOf (jobs ++ begun d ∷ []) s1 all u → AcceptsOf jobs s all u
          of (accepts_others more are others stays keeps first) =
              accepts_others (begun d ∷ more) (are ∙ append_assoc jobs (begun d ∷ []) more) (other, others)
              (stays ∙ still) (keeps_trans node s s1 u keeps1 keeps)
              (λ waiting. ap has_first (sym still)
              ∙ first (ap (λ (p : Option CallRecord). is_call (λ r. is_waiting r.life) p) still ∙ waiting))
          of (accepts_it k waiting front back are before behind after_ keeps) =
              accepts_it k (waited_before s s1 k o still keeps1 waiting) (begun d ∷ front) back
              (are ∙ append_assoc jobs (begun d ∷ []) (front ++ begun c ∷ back)) (other, before) behind
              (record {
                first = after_.first;
                legal = after_.legal;
                moment = after_.moment ∙ keeps1.moment;
                call = after_.call;
                there = after_.there;
                living = after_.living;
                passed = after_.passed;
              }) (keeps_trans node s s1 u keeps1 keeps)

      by : (b : Bool) → same_name c d ≡ b → AcceptsOf (jobs ++ begun d ∷ []) s1 all u → AcceptsOf jobs s all u
      by true same then_ = mine (name_is c d same) then_
      by false other then_ = another other then_
