-- Turns of callers, whatever else is kept.
use Rattle.std.proofs.Common.{◌≡◌, ◌≢◌, ◌≤◌, ◌<◌, ◌⊎◌, ◌+◌, ◌∙◌, ℕ, zero, suc, List, [], ◌∷◌, arith, Option, Some, None}
use Rattle.std.proofs.Common.{Result, true}
use Rattle.std.proofs.Common.{refl, sym, subst, ap, length, take, drop, set, get_or}
use Rattle.std.specs.Result.{IsErr, IsErrAnd}
use Rattle.rx_model.specs.declared.event.Noted.{Noted}
use Rattle.rx_asks.specs.Asks.{begun as caller_begun, calling}
use Rattle.rx_asks.specs.declared.ask.TheConstants.{REPLY_BYTES}
use Rattle.rx_asks.specs.View.{CallerState}
use Rattle.rx_joint.specs.Nodes.{NodesState}
use Rattle.rx_stage.specs.declared.stop.Stop.{Stop}
use Rattle.rx_stage.specs.Done.{KeepsDone, LeavesOut, PlaysCallers, is_done_at}
use Rattle.rx_plan.specs.Network.{below}
use Rattle.rx_plan.specs.Parts.{Part, To, each}
use Rattle.rx_stage.specs.Ran.{Ran, stop_of}
use Rattle.rx_stage.specs.TurnsPlayed.{PlaysTurn}
use Rattle.rx_plan.specs.Stages.{InvokedState, Stage}
use Rattle.rx_stage.specs.Shown.{Plays, Shows, WorldState}
use Rattle.rx_stage.specs.Tells.{Told}
use Rattle.rx_plan.specs.Turned.{turns_at, turns_for}
use Rattle.rx_stage.proofs.Delivering.{front_around}
use Rattle.rx_stage.proofs.Done.{each_whole}
use Rattle.rx_stage.proofs.Making.{stop_is}
use Rattle.rx_stage.proofs.Playing.{each_none, each_one, each_stops}
use Rattle.rx_stage.proofs.TurnsMade.{caller_made, caller_unmade, callers_shown, other_unmade, own_made}
use Rattle.rx_stage.proofs.LinesGone.{grown}

-- what is kept, with its nodes and callers by other names
same_kept : (w : WorldState) (n : NodesState) (cs : List InvokedState) → w.nodes ≡ n → w.callers ≡ cs
    → w ≡ record w { nodes = n; callers = cs }
same_kept w n cs is_n is_cs =
    ap (λ m. record w { nodes = m }) is_n ∙ ap (λ ds. record w { nodes = n; callers = ds }) is_cs

-- ---- one caller

module _ (cs ds : List InvokedState) (place : ℕ) (i read j written : InvokedState) (now : CallerState)
    (n nodes : NodesState) (stop : Option Stop) (a b : Told) where
  pub caller_turned : place < length cs → read ≡ i → i ≡ get_or cs place i → written ≡ j → j ≡ get_or cs place j
      → read.node ≢ 0 → read.node ≤ length n.clients → ds ≡ set cs place (record written { caller = now })
      → PlaysTurn (calling REPLY_BYTES) read.node (caller_begun written.caller) now n nodes stop a b
      → PlaysCallers (turns_at place) cs ds n nodes stop a b
  caller_turned low sees reads shows writes some within same turn w
      is_n is_cs =
      caller_made w w place i read j written now nodes ds stop a b refl
      (subst (λ xs. place < length xs) (sym is_cs) low) sees (subst (λ xs. i ≡ get_or xs place i) (sym is_cs) reads)
      shows
      (subst (λ xs. j ≡ get_or xs place j) (sym is_cs) writes) some
      (subst (λ (m : NodesState). read.node ≤ length m.clients) (sym is_n) within)
      (subst (λ xs. ds ≡ set xs place (record written { caller = now })) (sym is_cs) same)
      (subst (λ m. PlaysTurn (calling REPLY_BYTES) read.node (caller_begun written.caller) now m nodes stop a b)
      (sym is_n)
      turn)

pub caller_unturned : (cs : List InvokedState) (place : ℕ) (i read : InvokedState) (n : NodesState) (t : Told)
    → place < length cs → read ≡ i → i ≡ get_or cs place i → (read.node ≡ 0) ⊎ (length n.clients < read.node)
    → PlaysCallers (turns_at place) cs cs n n None t t
caller_unturned cs place i read n t low sees reads apart w is_n is_cs =
    subst (λ (u : WorldState). Plays (turns_at place) w u None t t) (same_kept w n cs is_n is_cs)
    (caller_unmade w w place i read t refl (subst (λ xs. place < length xs) (sym is_cs) low) sees
    (subst (λ xs. i ≡ get_or xs place i) (sym is_cs) reads)
    (subst (λ (m : NodesState). (read.node ≡ 0) ⊎ (length m.clients < read.node)) (sym is_n) apart))

module _ (node place : ℕ) (cs ds : List InvokedState) (i read : InvokedState) (n nodes : NodesState)
    (stop : Option Stop) (a b : Told) where
  pub own_turned : place < length cs → read ≡ i → i ≡ get_or cs place i → read.node ≡ node
      → PlaysCallers (turns_at place) cs ds n nodes stop a b
      → PlaysCallers (turns_for node place) cs ds n nodes stop a b
  own_turned low sees reads own plays w is_n is_cs =
      own_made node place w w (record w { nodes = nodes; callers = ds }) i read stop a b refl
      (subst (λ xs. place < length xs) (sym is_cs) low) sees (subst (λ xs. i ≡ get_or xs place i) (sym is_cs) reads) own
      (plays w is_n is_cs)

pub other_unturned : (node place : ℕ) (cs : List InvokedState) (i read : InvokedState) (n : NodesState) (t : Told)
    → place < length cs → read ≡ i → i ≡ get_or cs place i → read.node ≢ node
    → PlaysCallers (turns_for node place) cs cs n n None t t
other_unturned node place cs i read n t low sees reads other w is_n is_cs =
    subst (λ (u : WorldState). Plays (turns_for node place) w u None t t) (same_kept w n cs is_n is_cs)
    (other_unmade node place w w i read t refl (subst (λ xs. place < length xs) (sym is_cs) low) sees
    (subst (λ xs. i ≡ get_or xs place i) (sym is_cs) reads) other)

-- ---- those at some places

pub callers_none : (part : ℕ → Stage → Part Stage) (cs : List InvokedState) (n : NodesState) (t : Told)
    → PlaysCallers (each part []) cs cs n n None t t
callers_none part cs n t w is_n is_cs =
    subst (λ (u : WorldState). Plays (each part []) w u None t t) (same_kept w n cs is_n is_cs) (each_none part w t)

module _ (part : ℕ → Stage → Part Stage) (xs : List ℕ) (k x : ℕ) (cs ms ds : List InvokedState) (old m new : NodesState)
  where
    -- one more
    pub callers_more : (a b c : Told) → k < length xs → x ≡ get_or xs k x
        → PlaysCallers (each part (take k xs)) cs ms old m None a b → PlaysCallers (part x) ms ds m new None b c
        → PlaysCallers (each part (take (k + 1) xs)) cs ds old new None a c
    callers_more a b c less is so_far next w is_n is_cs =
        subst (λ ys. Plays (each part ys) w (record w { nodes = new; callers = ds }) None a c)
        (sym (grown xs k x less is))
        (each_one part (take k xs) x w (record w { nodes = m; callers = ms }) (record w { nodes = new; callers = ds })
        None
        a b c (so_far w is_n is_cs) (next (record w { nodes = m; callers = ms }) refl refl))

    -- one that ended the run
    pub callers_stop : (r : Result (Unit {0}) Stop) (stop : Stop) (a b c : Told) → IsErr r × IsErrAnd r (λ y. y ≡ stop)
        → k < length xs → x ≡ get_or xs k x → PlaysCallers (each part (take k xs)) cs ms old m None a b
        → PlaysCallers (part x) ms ds m new (Some stop) b c → PlaysCallers (each part xs) cs ds old new (stop_of r) a c
    callers_stop r stop a b c was less is so_far last w is_n is_cs =
        subst (λ o. Plays (each part xs) w (record w { nodes = new; callers = ds }) o a c) (sym (stop_is r stop was))
        (subst (λ ys. Plays (each part ys) w (record w { nodes = new; callers = ds }) (Some stop) a c)
        (sym (front_around xs k x less is))
        (each_stops part (take k xs) (drop (suc k) xs) x w (record w { nodes = m; callers = ms })
        (record w { nodes = new; callers = ds }) stop a b c (so_far w is_n is_cs)
        (last (record w { nodes = m; callers = ms }) refl refl)))

-- ---- all of them

module _ (part : ℕ → Stage → Part Stage) where
  -- where those that are left out are done
  pub callers_whole : ((p : ℕ) (s : Stage) → is_done_at s.callers p ≡ true → part p s [] (To s))
      → ((p : ℕ) (s : Stage) (es : List Noted) (t : Stage) → part p s es (To t) → KeepsDone s.callers t.callers)
      → (xs : List ℕ) (cs ds : List InvokedState) (n nodes : NodesState) (stop : Option Stop) (a b : Told)
      → LeavesOut (is_done_at cs) xs (below (length cs)) → PlaysCallers (each part xs) cs ds n nodes stop a b
      → PlaysCallers (λ s. each part (below (length s.callers)) s) cs ds n nodes stop a b
  callers_whole rests keeps xs cs ds n nodes stop a b left plays w is_n is_cs s shown =
      (let r : Ran (each part xs s) (Shows (record w { nodes = nodes; callers = ds })) stop a b =
      plays w is_n is_cs s shown in
      let same : cs ≡ s.callers = sym (callers_shown w s shown ∙ is_cs) in
      record {
        events = r.events;
        came = r.came;
        made = each_whole part rests keeps (is_done_at s.callers) xs (below (length s.callers))
            (subst (λ xs2. LeavesOut (is_done_at xs2) xs (below (length xs2))) same left) s r.events r.came (λ p is. is)
            r.made;
        fits = r.fits;
      })

module _ (part : ℕ → Stage → Part Stage)
    (rests : ((p : ℕ) (s : Stage) → is_done_at s.callers p ≡ true → part p s [] (To s)))
    (keeps : ((p : ℕ) (s : Stage) (es : List Noted) (t : Stage) → part p s es (To t) → KeepsDone s.callers t.callers))
    (xs seen : List ℕ) (cs old ds : List InvokedState) (n nodes : NodesState) (stop : Option Stop) (a b : Told) where
  -- the same as a method has it
  pub callers_all : LeavesOut (is_done_at cs) xs (below (length cs)) → seen ≡ xs → cs ≡ old
      → PlaysCallers (each part seen) cs ds n nodes stop a b
      → PlaysCallers (λ s. each part (below (length s.callers)) s) old ds n nodes stop a b
  callers_all left same is plays w is_n is_cs =
      callers_whole part rests keeps xs cs ds n nodes stop a b left
      (subst (λ ys. PlaysCallers (each part ys) cs ds n nodes stop a b) same plays) w is_n (is_cs ∙ sym is)

-- what is at a place of a list
pub same_there : (xs : List ℕ) (k d e : ℕ) → k < length xs → get_or xs k d ≡ get_or xs k e
same_there [] k d e less = absurd (omega (arith, less))
same_there (x ∷ xs) zero d e less = refl
same_there (x ∷ xs) (suc k) d e less = same_there xs k d e (omega (arith, less))

-- the callers' turns are the world's
pub world_turned : (part : Stage → Part Stage) (v w : WorldState) (n : NodesState) (ds : List InvokedState)
    (stop : Option Stop) (a b : Told) → v ≡ w → PlaysCallers part v.callers ds v.nodes n stop a b
    → Plays part w (record v { nodes = n; callers = ds }) stop a b
world_turned part v w n ds stop a b is plays =
    subst (λ (u : WorldState). Plays part u (record v { nodes = n; callers = ds }) stop a b) is (plays v refl refl)

-- the same is told, as the code has it
pub callers_seen : (part : Stage → Part Stage) (cs ds : List InvokedState) (n nodes : NodesState) (stop : Option Stop)
    (a b c : Told) → c ≡ b → PlaysCallers part cs ds n nodes stop a b → PlaysCallers part cs ds n nodes stop a c
callers_seen part cs ds n nodes stop a b c same plays =
    subst (λ (t : Told). PlaysCallers part cs ds n nodes stop a t) (sym same) plays
