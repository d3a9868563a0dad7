-- Callers that are done: their turns make nothing, so a run that leaves them out is one of all.
use Rattle.std.proofs.Common.{◌≡◌, ◌<◌, ◌∙◌, ℕ, zero, suc, Bool, true, false, List, [], ◌∷◌, ◌++◌, not, cond}
use Rattle.std.proofs.Common.{Option, Some, None, refl, inl, inr, sym, subst, ap, set, arith, length, option_map}
use Rattle.std.proofs.Common.{filter}
use Rattle.std.specs.List.{All}
use Rattle.std.specs.Prelude.{if◌then◌else◌, is_some, nat_lt, slice_get}
use Rattle.std.proofs.lemmas.List.{length-append}
use Rattle.std.proofs.lemmas.List.Elements.{All-nil, All-cons, All-head, All-tail, All-push, All-weaker}
use Rattle.rx_model.specs.declared.event.Noted.{Noted}
use Rattle.rx_asks.specs.Asks.{asking, begun as caller_begun, calling, done_at, is_done, next_at}
use Rattle.rx_asks.specs.declared.ask.Ask.TheVariants as asks
use Rattle.rx_asks.specs.declared.ask.Phase.{Phase}
use Rattle.rx_asks.specs.declared.ask.Phase.TheVariants as phases
use Rattle.rx_asks.specs.declared.ask.TheConstants.{REPLY_BYTES}
use Rattle.rx_asks.specs.View.{CallerState}
use Rattle.rx_wire.specs.Turns.{Program}
use Rattle.rx_stage.specs.Done.{KeepsDone, LeavesOut, StaysDone, has_both, is_done_at, is_done_if, leaves, no_more}
use Rattle.rx_plan.specs.Network.{below}
use Rattle.rx_script.specs.declared.outcome.PlanWhy.{PlanWhy}
use Rattle.rx_plan.specs.Parts.{Came, Cut, Endless, Part, Refused, To, by_test, each, ends, goes_on}
use Rattle.rx_plan.specs.Programs.{Turn, cut_there, goes, is_endless, is_over}
use Rattle.rx_plan.specs.Stages.{InvokedState, Stage, is_client}
use Rattle.rx_plan.specs.Turned.{is_of, turns_at, turns_for, turns_of, turns_where}
use Rattle.rx_plan.proofs.Callers.{one_is}
use Rattle.rx_stage.proofs.Ordering.{below_one}

-- ---- one caller

pub done_ended : (v : CallerState) → is_done v ≡ true → is_some v.end ≡ true
done_ended v is = by v.phase is
  where
    by : (p : Phase) → done_at p (is_some v.end) ≡ true → is_some v.end ≡ true
    by phases.Offering is = is
    by phases.Reading is = absurd cc
    by phases.Resting is = absurd cc

-- it begins a turn as it was
pub begun_done : (v : CallerState) → is_done v ≡ true → caller_begun v ≡ v
begun_done v is = by v.phase refl is
  where
    by : (p : Phase) → v.phase ≡ p → done_at p (is_some v.end) ≡ true → caller_begun v ≡ v
    by phases.Offering here is = ap (λ p. record v { phase = p }) (sym here)
    by phases.Reading here is = absurd cc
    by phases.Resting here is = absurd cc

-- one that ended asks nothing
pub ended_asks : (v : CallerState) → is_some v.end ≡ true → (calling REPLY_BYTES).asks v ≡ None
ended_asks v is =
    ap (λ b. option_map (asking v) (if b then None else if nat_lt REPLY_BYTES (length v.reply) then Some asks.Cancel
    else next_at v.phase v)) is

-- a turn that is over at once leaves what was known
abbrev Leaves : {View : Type 0} → View → Came (View × Stage) → Type 0
Leaves v (To r) = r.0 ≡ v
Leaves v (Refused why) = Unit {0}
Leaves v Cut = Unit {0}
Leaves v Endless = Unit {0}

turn_over : {View Ask : Type 0} (p : Program View Ask) (node : ℕ) (v : View) (s : Stage) (es : List Noted)
    (out : Came (View × Stage)) → Turn p node v s es out → p.asks v ≡ None → Leaves v out
turn_over p node v s es out (cut_there x y) over = tt
turn_over p node v s es out (is_endless x y fs turn long) over = tt
turn_over p node v s es out (is_over x y none) over = refl
turn_over {View} {Ask} p node v s es out (goes x y a e fs came asked allowed rest) over =
    (let no : Some a ≡ None = sym asked ∙ over in absurd cc)

-- a whole turn leaves a caller done
pub turn_stays : (node : ℕ) (v w : CallerState) (s t : Stage) (es : List Noted)
    → Turn (calling REPLY_BYTES) node (caller_begun v) s es (To (w, t)) → StaysDone v w
turn_stays node v w s t es turn done =
    (let same : w ≡ caller_begun v = turn_over (calling REPLY_BYTES) node (caller_begun v) s es (To (w, t)) turn
    (ended_asks (caller_begun v) (done_ended v done)) in
    subst (λ (u : CallerState). is_done u ≡ true) (sym same) (done_ended v done))

-- ---- the callers

set_same : {X : Type 0} (xs : List X) (n : ℕ) (x : X) → slice_get xs n ≡ Some x → set xs n x ≡ xs
set_same [] n x at = refl
set_same (z ∷ xs) zero x at = ap (λ y. y ∷ xs) (sym (one_is z x at))
set_same (z ∷ xs) (suc n) x at = ap (λ ys. z ∷ ys) (set_same xs n x at)

pub set_keeps : (cs : List InvokedState) (place : ℕ) (i : InvokedState) (now : CallerState)
    → slice_get cs place ≡ Some i → StaysDone i.caller now → KeepsDone cs (set cs place (record i { caller = now }))
set_keeps [] place i now at stays p is = is
set_keeps (c ∷ cs) zero i now at stays zero is =
    stays (subst (λ (k : InvokedState). is_done k.caller ≡ true) (one_is c i at) is)
set_keeps (c ∷ cs) zero i now at stays (suc p) is = is
set_keeps (c ∷ cs) (suc place) i now at stays zero is = is
set_keeps (c ∷ cs) (suc place) i now at stays (suc p) is = set_keeps cs place i now at stays p is

-- one more behind them
pub push_keeps : (cs : List InvokedState) (i : InvokedState) → KeepsDone cs (cs ++ i ∷ [])
push_keeps [] i p is = absurd (none p is)
  where
    none : (p : ℕ) → is_done_at [] p ≡ true → ⊥
    none zero is = absurd cc
    none (suc p) is = absurd cc
push_keeps (c ∷ cs) i zero is = is
push_keeps (c ∷ cs) i (suc p) is = push_keeps cs i p is

-- ---- a turn of one that is done

pub rests_at : (place : ℕ) (s : Stage) → is_done_at s.callers place ≡ true → turns_at place s [] (To s)
rests_at place s is = by (slice_get s.callers place) refl is
  where
    by : (o : Option InvokedState) → slice_get s.callers place ≡ o → is_done_if o ≡ true
        → turns_where place o s [] (To s)
    by None at is = absurd cc
    by (Some i) at is = test (is_client i.node s)
      where
        here : set s.callers place (record i { caller = caller_begun i.caller }) ≡ s.callers
        here = ap (λ v. set s.callers place (record i { caller = v })) (begun_done i.caller is)
            ∙ set_same s.callers place i at

        test : (b : Bool) → by_test b (turns_of place i s) (ends (To s)) [] (To s)
        test true =
            record {
              front = [];
              rest = [];
              are = refl;
              came = To (caller_begun i.caller, s);
              made = is_over (caller_begun i.caller) s (ended_asks (caller_begun i.caller) (done_ended i.caller is));
              goes = (refl, inl (ap (λ cs. To (record s { callers = cs })) (sym here)));
            }
        test false = (refl, inl refl)

pub rests_for : (node place : ℕ) (s : Stage) → is_done_at s.callers place ≡ true → turns_for node place s [] (To s)
rests_for node place s is = by (is_of node (slice_get s.callers place))
  where
    by : (b : Bool) → by_test b (turns_at place s) (ends (To s)) [] (To s)
    by true = rests_at place s is
    by false = (refl, inl refl)

-- ---- turns keep those that are done

-- nothing made comes to the same
ends_same : (s t : Stage) (es : List Noted) → ends {Why = PlanWhy} (To s) es (To t) → t ≡ s
ends_same s t es (none, inl same) = cc (same)
ends_same s t es (none, inr same) = absurd cc

rest_keeps : (s t : Stage) (es : List Noted) → ends {Why = PlanWhy} (To s) es (To t) → KeepsDone s.callers t.callers
rest_keeps s t es rests p is =
    subst (λ (u : Stage). is_done_at u.callers p ≡ true) (sym (ends_same s t es rests)) is

of_keeps : (place : ℕ) (i : InvokedState) (s t : Stage) (es : List Noted) → slice_get s.callers place ≡ Some i
    → turns_of place i s es (To t) → KeepsDone s.callers t.callers
of_keeps place i s t es at m = by m.front m.rest m.came m.made m.goes
  where
    by : (front rest : List Noted) (came : Came (CallerState × Stage))
        → Turn (calling REPLY_BYTES) i.node (caller_begun i.caller) s front came
        → goes_on (λ (r : CallerState × Stage). ends (To (record r.1 {
          callers = set s.callers place
              (record i { caller = r.0 });
        }))) came rest (To t) → KeepsDone s.callers t.callers
    by front rest (To r) made on p is =
        (let same : t ≡ record r.1 { callers = set s.callers place (record i { caller = r.0 }) } =
        ends_same (record r.1 { callers = set s.callers place (record i { caller = r.0 }) }) t rest on in
        subst (λ (u : Stage). is_done_at u.callers p ≡ true) (sym same)
        (set_keeps s.callers place i r.0 at (turn_stays i.node i.caller r.0 s r.1 front made) p is))
    by front rest (Refused why) made (none, inl same) p is = absurd cc
    by front rest (Refused why) made (none, inr same) p is = absurd cc
    by front rest Cut made (none, inl same) p is = absurd cc
    by front rest Cut made (none, inr same) p is = absurd cc
    by front rest Endless made (none, inl same) p is = absurd cc
    by front rest Endless made (none, inr same) p is = absurd cc

pub keeps_at : (place : ℕ) (s : Stage) (es : List Noted) (t : Stage) → turns_at place s es (To t)
    → KeepsDone s.callers t.callers
keeps_at place s es t made = by (slice_get s.callers place) refl made
  where
    by : (o : Option InvokedState) → slice_get s.callers place ≡ o → turns_where place o s es (To t)
        → KeepsDone s.callers t.callers
    by None at made = rest_keeps s t es made
    by (Some i) at made = test (is_client i.node s) made
      where
        test : (b : Bool) → by_test b (turns_of place i s) (ends (To s)) es (To t) → KeepsDone s.callers t.callers
        test true made = of_keeps place i s t es at made
        test false made = rest_keeps s t es made

pub keeps_for : (node place : ℕ) (s : Stage) (es : List Noted) (t : Stage) → turns_for node place s es (To t)
    → KeepsDone s.callers t.callers
keeps_for node place s es t made = by (is_of node (slice_get s.callers place)) made
  where
    by : (b : Bool) → by_test b (turns_at place s) (ends (To s)) es (To t) → KeepsDone s.callers t.callers
    by true made = keeps_at place s es t made
    by false made = rest_keeps s t es made

-- ---- what is left out

pub leaves_by : (T U : ℕ → Bool) → ((p : ℕ) → T p ≡ true → U p ≡ true) → (xs ys : List ℕ) → LeavesOut T xs ys
    → LeavesOut U xs ys
leaves_by T U so xs ys no_more = no_more
leaves_by T U so xs ys (has_both x us vs rest) = has_both x us vs (leaves_by T U so us vs rest)
leaves_by T U so xs ys (leaves y us vs is rest) = leaves y us vs (so y is) (leaves_by T U so us vs rest)

-- one more of both
pub leaves_more : (T : ℕ → Bool) (n : ℕ) (xs ys : List ℕ) → LeavesOut T xs ys
    → LeavesOut T (xs ++ n ∷ []) (ys ++ n ∷ [])
leaves_more T n xs ys no_more = has_both n [] [] no_more
leaves_more T n xs ys (has_both x us vs rest) =
    has_both x (us ++ n ∷ []) (vs ++ n ∷ []) (leaves_more T n us vs rest)
leaves_more T n xs ys (leaves y us vs is rest) =
    leaves y (us ++ n ∷ []) (vs ++ n ∷ []) is (leaves_more T n us vs rest)

-- without those of which the test is true
pub leaves_filter : (T : ℕ → Bool) (xs ys : List ℕ) → LeavesOut T xs ys → LeavesOut T (filter (λ p. not (T p)) xs) ys
leaves_filter T xs ys no_more = no_more
leaves_filter T xs ys (has_both x us vs rest) = by (T x) refl (leaves_filter T us vs rest)
  where
    left : List ℕ
    left = filter (λ p. not (T p)) us

    by : (b : Bool) → T x ≡ b → LeavesOut T left vs → LeavesOut T (cond (not b) (x ∷ left) left) (x ∷ vs)
    by true is behind = leaves x left vs is behind
    by false is behind = has_both x left vs behind
leaves_filter T xs ys (leaves y us vs is rest) =
    leaves y (filter (λ p. not (T p)) us) vs is (leaves_filter T us vs rest)

leaves_all : (T : ℕ → Bool) (P : ℕ → Type 0) (xs ys : List ℕ) → LeavesOut T xs ys → All P ys → All P xs
leaves_all T P xs ys no_more all = All-nil P
leaves_all T P xs ys (has_both x us vs rest) all =
    All-cons P x us (All-head P x vs all) (leaves_all T P us vs rest (All-tail P x vs all))
leaves_all T P xs ys (leaves y us vs is rest) all = leaves_all T P us vs rest (All-tail P y vs all)

below_low : (n : ℕ) → All (λ p. p < n) (below n)
below_low zero = All-nil (λ p. p < 0)
below_low (suc n) =
    All-push (λ p. p < suc n) (below n) n
    (All-weaker (λ p. p < n) (λ p. p < suc n) (λ p low. omega (arith, low)) (below n) (below_low n)) (omega arith)

pub leaves_low : (T : ℕ → Bool) (xs : List ℕ) (n : ℕ) → LeavesOut T xs (below n) → All (λ p. p < n) xs
leaves_low T xs n left = leaves_all T (λ p. p < n) xs (below n) left (below_low n)

-- ---- what is kept of them

pub left_none : (cs : List InvokedState) (xs : List ℕ) → cs ≡ [] → xs ≡ []
    → LeavesOut (is_done_at cs) xs (below (length cs))
left_none cs xs no_callers none =
    subst (λ ys. LeavesOut (is_done_at cs) ys (below (length cs))) (sym none)
    (subst (λ ds. LeavesOut (is_done_at ds) [] (below (length ds))) (sym no_callers) no_more)

-- behind one more caller
pub left_more : (cs ds : List InvokedState) (i : InvokedState) (n : ℕ) (xs ys : List ℕ) → n ≡ length cs
    → ds ≡ cs ++ i ∷ [] → ys ≡ xs ++ n ∷ [] → LeavesOut (is_done_at cs) xs (below (length cs))
    → LeavesOut (is_done_at ds) ys (below (length ds))
left_more cs ds i n xs ys long is_ds is_ys left =
    (let there : below (length ds) ≡ below (length cs) ++ n ∷ [] =
    ap (λ (es : List InvokedState). below (length es)) is_ds ∙ ap below (length-append cs (i ∷ []))
    ∙ below_one (length cs) ∙ ap (λ k. below (length cs) ++ k ∷ []) (sym long) in
    subst (λ zs. LeavesOut (is_done_at ds) ys zs) (sym there)
    (subst (λ zs. LeavesOut (is_done_at ds) zs (below (length cs) ++ n ∷ [])) (sym is_ys)
    (subst (λ es. LeavesOut (is_done_at es) (xs ++ n ∷ []) (below (length cs) ++ n ∷ [])) (sym is_ds)
    (leaves_by (is_done_at cs) (is_done_at (cs ++ i ∷ [])) (push_keeps cs i) (xs ++ n ∷ [])
    (below (length cs) ++ n ∷ []) (leaves_more (is_done_at cs) n xs (below (length cs)) left)))))

-- without those that are done
pub left_filter : (cs seen : List InvokedState) (xs ys : List ℕ) → seen ≡ cs
    → ys ≡ filter (λ p. not (is_done_at seen p)) xs → LeavesOut (is_done_at cs) xs (below (length cs))
    → LeavesOut (is_done_at cs) ys (below (length cs))
left_filter cs seen xs ys same are left =
    subst (λ zs. LeavesOut (is_done_at cs) zs (below (length cs)))
    (sym (are ∙ ap (λ es. filter (λ p. not (is_done_at es p)) xs) same))
    (leaves_filter (is_done_at cs) xs (below (length cs)) left)

-- behind turns
pub left_turned : (cs ds : List InvokedState) (xs : List ℕ) → KeepsDone cs ds → length ds ≡ length cs
    → LeavesOut (is_done_at cs) xs (below (length cs)) → LeavesOut (is_done_at ds) xs (below (length ds))
left_turned cs ds xs keeps long left =
    subst (λ n. LeavesOut (is_done_at ds) xs (below n)) (sym long)
    (leaves_by (is_done_at cs) (is_done_at ds) keeps xs (below (length cs)) left)

-- ---- turns of all

-- a run that leaves out some that are done is one of all
pub each_whole : (part : ℕ → Stage → Part Stage)
    → ((p : ℕ) (s : Stage) → is_done_at s.callers p ≡ true → part p s [] (To s))
    → ((p : ℕ) (s : Stage) (es : List Noted) (t : Stage) → part p s es (To t) → KeepsDone s.callers t.callers)
    → (T : ℕ → Bool) (xs ys : List ℕ) → LeavesOut T xs ys
    → (s : Stage) (es : List Noted) (out : Came Stage) → ((p : ℕ) → T p ≡ true → is_done_at s.callers p ≡ true)
    → each part xs s es out → each part ys s es out
each_whole part rests keeps T xs ys no_more s es out so made = made
each_whole part rests keeps T xs ys (has_both x us vs left) s es out so made =
    record {
      front = made.front;
      rest = made.rest;
      are = made.are;
      came = made.came;
      made = made.made;
      goes = on made.front made.rest made.came made.made made.goes
          (λ t front rest first next. each_whole part rests keeps T us vs left t rest out
          (λ p is. keeps x s front t first p (so p is)) next);
    }
  where
    on : (front rest : List Noted) (came : Came Stage) → part x s front came → goes_on (each part us) came rest out
        → ((t : Stage) (front rest : List Noted) → part x s front (To t) → each part us t rest out
        → each part vs t rest out) → goes_on (each part vs) came rest out
    on front rest (To t) first next again = again t front rest first next
    on front rest (Refused why) first next again = next
    on front rest Cut first next again = next
    on front rest Endless first next again = next
each_whole part rests keeps T xs ys (leaves y us vs is left) s es out so made =
    record {
      front = [];
      rest = es;
      are = refl;
      came = To s;
      made = rests y s (so y is);
      goes = each_whole part rests keeps T us vs left s es out so made;
    }
