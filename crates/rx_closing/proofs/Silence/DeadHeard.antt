-- A call of rounds behind a plan that is found dead, though its client heard a message of it in them.
use Rattle.std.proofs.Common.{◌≡◌, ◌++◌, ℕ, suc, true, false, List, ◌∷◌, Option, Some, None, refl, ap, sym, subst, ◌∙◌}
use Rattle.std.specs.Prelude.{IfSome, IsSomeAnd, slice_get}
use Rattle.rx_model.specs.declared.answers.End.{End}
use Rattle.rx_model.specs.declared.answers.End.TheVariants as ends
use Rattle.rx_model.specs.declared.answers.Took.TheVariants as tooks
use Rattle.rx_model.specs.declared.event.Event.{Event}
use Rattle.rx_model.specs.declared.event.Noted.{Noted}
use Rattle.rx_model.specs.declared.names.CallName.{CallName}
use Rattle.rx_rules.specs.Life.{Life, is_live}
use Rattle.rx_rules.specs.Life as lives
use Rattle.rx_rules.specs.Looks.{CallRecord, call_at, is_call}
use Rattle.rx_history.specs.Sides.{Node}
use Rattle.rx_history.specs.Streams.{end_at, end_by, end_of_life}
use Rattle.rx_script.specs.declared.plan.Numbered.{Numbered}
use Rattle.rx_jobs.specs.Handlers.{Handlers}
use Rattle.rx_wire.specs.Turns.{noted}
use Rattle.rx_plan.specs.Promises.{plan_nodes}
use Rattle.rx_plan.specs.Stages.{Stage}
use Rattle.rx_plan.proofs.Givings.Answered.{nodes_are}
use Rattle.rx_plan.proofs.Bags.{behind}
use Rattle.rx_closing.specs.Living.{call_lives_at, looks_of}
use Rattle.rx_closing.specs.Closing.{RoundsBehind}
use Rattle.rx_closing.specs.Silence.{CameAmong, CameWith, DeadInSilence, DeadOneInSilence, is_hearing}
use Rattle.rx_closing.specs.Several.{DeadAllInSilence}
use Rattle.rx_closing.proofs.Rounds.Chains.{Adds, behind_adds_all}
use Rattle.rx_closing.proofs.Rounds.LastLife.{LastLife, last_life}
use Rattle.rx_closing.proofs.Rounds.Tracks.{rounds_track, split_behind}
use Rattle.rx_closing.proofs.Silence.DeadTimes.{server, server_there}
use Rattle.rx_closing.proofs.Sums.ClosesAll.{one_spacious, room_spacious}
use Rattle.rx_closing.proofs.Together.MembersHere.{AreSpacious}

-- a call that ended lives no more
ended_dead : (o : Option CallRecord) (end : End) → end_by o ≡ Some end → is_call (λ r. is_live r.life) o ≡ false
ended_dead None end is = refl
ended_dead (Some r) end is = of r.life is
  where
    of : (x : Life) → end_of_life x ≡ Some end → is_live x ≡ false
    of (lives.Ended other) is = refl
    of (lives.Over code) is = refl
    of _ is = absurd cc

-- ---- what is found

-- a call of rounds behind a plan, found dead, with a message of it that its client heard in them
pub record DeadHeard (g : Handlers) (ls : List Numbered) (n : ℕ) (s t : Stage) (b : RoundsBehind g ls n s t)
    (c : CallName)
    (k : ℕ) (client : Node) : Type 0 where
  pub there : slice_get s.nodes (suc k) ≡ Some client
  pub living : call_lives_at s c (suc k) client ≡ true
  pub o : LastLife g c (suc k) client s t
  pub silence : ℕ
  pub dead : end_at (looks_of t (suc k) client) c ≡ Some (ends.Dead silence)
  pub e : Event
  pub came : CameWith client.setup (λ got. is_hearing got ≡ true) c e
  pub later : List Noted
  pub before : List Noted
  pub are : t.history ≡ later ++ (noted (suc k) e ∷ before)
  pub since : Adds s.history before

module _ (g : Handlers) (ls : List Numbered) (n : ℕ) (s t : Stage) (b : RoundsBehind g ls n s t) (c : CallName) (k : ℕ)
    (client : Node) (d : DeadHeard g ls n s t b c k client) where
  -- its server
  abbrev pub its_server : Node
  its_server = server g ls n s t b

  -- the answer that there is no place for it came to the server
  abbrev pub GotFull : Type 0
  GotFull = CameAmong 0 its_server.setup (λ got. got ≡ tooks.Full) c b.fs

-- what is promised of one call, where the answer is found
pub dead_from : (g : Handlers) (ls : List Numbered) (n : ℕ) (s t : Stage) (b : RoundsBehind g ls n s t) (c : CallName)
    → ((k : ℕ) (client : Node) (d : DeadHeard g ls n s t b c k client) → GotFull g ls n s t b c k client d)
    → DeadInSilence (plan_nodes ls) s b.fs t c
dead_from g ls n s t b c fulls k silence = of (slice_get (plan_nodes ls) (suc k)) refl
  where
    same_nodes : s.nodes ≡ plan_nodes ls
    same_nodes = (nodes_are g ls b.es s b.well b.driven b.distinct b.goes).0

    full : (client : Node) (d : DeadHeard g ls n s t b c k client)
        → IsSomeAnd (slice_get (plan_nodes ls) 0) (λ server. CameAmong 0 server.setup (λ got. got ≡ tooks.Full) c b.fs)
    full client d =
        subst (λ (q : Option Node). IsSomeAnd q (λ server. CameAmong 0 server.setup (λ got. got ≡ tooks.Full) c b.fs))
        (sym (server_there g ls n s t b)
        ∙ ap (λ (ns : List Node). slice_get ns 0) same_nodes)
        (fulls k client d)

    of : (q : Option Node) → slice_get (plan_nodes ls) (suc k) ≡ q
        → IfSome q (λ client. call_lives_at s c (suc k) client ≡ true
        → end_at (looks_of t (suc k) client) c ≡ Some (ends.Dead silence)
        → CameAmong (suc k) client.setup (λ got. is_hearing got ≡ true) c b.fs
        → IsSomeAnd (slice_get (plan_nodes ls) 0)
        (λ server. CameAmong 0 server.setup (λ got. got ≡ tooks.Full) c b.fs))
    of None is = tt
    of (Some client) is =
        λ living dead among.
        (let there : slice_get s.nodes (suc k) ≡ Some client =
        ap (λ (ns : List Node). slice_get ns (suc k)) same_nodes ∙ is in
        let more = behind_adds_all among.later (noted (suc k) among.event ∷ behind among.before s.history) in
        let whole = rounds_track g n s b.fs t b.rounds_are
        ∙ ap (λ (es : List Noted). behind es s.history) among.are
        ∙ split_behind among.before (noted (suc k) among.event) among.later s.history in
        full client (record {
          there = there;
          living = living;
          o = last_life g n s t (b.fs, b.rounds_are) c (suc k) client there living
              (ended_dead (call_at (looks_of t (suc k) client) c) (ends.Dead silence) dead);
          silence = silence;
          dead = dead;
          e = among.event;
          came = among.comes;
          later = more.more;
          before = behind among.before s.history;
          are = whole ∙ more.is;
          since = behind_adds_all among.before s.history;
        }))

-- so it is of all calls, and of one
abbrev pub FindsFull : Type 0
FindsFull =
    (g : Handlers) (ls : List Numbered) (n : ℕ) (s t : Stage) (b : RoundsBehind g ls n s t) → AreSpacious s
    → (c : CallName) (k : ℕ) (client : Node) (d : DeadHeard g ls n s t b c k client) → GotFull g ls n s t b c k client d

pub dead_all_from : FindsFull → DeadAllInSilence
dead_all_from fulls g ls n s t b room c =
    dead_from g ls n s t b c (fulls g ls n s t b (room_spacious s room) c)

pub dead_one_from : FindsFull → DeadOneInSilence
dead_one_from fulls g ls n s t b one c =
    dead_from g ls n s t b c (fulls g ls n s t b (one_spacious g ls n s t b one) c)
