-- What is told has gained so much, and then so much.
use Rattle.std.proofs.Common.{◌≡◌, ◌∙◌, ℕ, List, [], ◌∷◌, ◌++◌, map, Option, Some, None, refl, sym, ap, subst}
use Rattle.std.proofs.Common.{append_assoc, append-nil}
use Rattle.rx_model.specs.declared.event.Noted.{Noted}
use Rattle.rx_wire.specs.Wire.{Logged, Traffic}
use Rattle.rx_run.specs.Tells.{Gains, gains_none, gains_one}
use Rattle.rx_drive.specs.Tells.{Entry, GainedMuch, Grows, GrowsLog, Step, Told, entries_of, logs, made_of}
use Rattle.rx_drive.specs.Tells.{Made, moment_by, telling}

-- ---- nothing was gained

-- what has gained nothing is as it was
pub grows_same : {X : Type 0} (a b : Option (List X)) → Grows a b [] → b ≡ a
grows_same None b is = is
grows_same (Some old) b is = is ∙ ap Some (append-nil old)

log_same : (a b : Option Traffic) → GrowsLog a b [] → b ≡ a
log_same None b is = is
log_same (Some old) b is = is ∙ ap (λ (ls : List Logged). Some (record old { log = ls })) (append-nil old.log)

pub left_same : (a b : Told) → GainedMuch a b (logs []) → b ≡ a
left_same a b g =
    of b.noted b.put b.puts b.traffic b.calls b.moment (grows_same a.noted b.noted g.noted)
    (grows_same a.put b.put g.put) g.puts (log_same a.traffic b.traffic g.log) g.calls g.moment
  where
    of : (n : Option (List Noted)) (p : Option (List ℕ)) (k : ℕ) (t : Option Traffic) (c m : ℕ)
        → n ≡ a.noted → p ≡ a.put → k ≡ a.puts → t ≡ a.traffic → c ≡ a.calls → m ≡ a.moment
        → record { noted = n; put = p; puts = k; traffic = t; calls = c; moment = m } ≡ a
    of n p k t c m i j l x y z = rw (i, j, l, x, y, z) refl

-- and has gained nothing of any kind
pub grows_none : {X : Type 0} (a : Option (List X)) → Grows a a []
grows_none None = refl
grows_none (Some old) = sym (ap Some (append-nil old))

-- ---- entries of the log

-- the log with these entries, where it is told
abbrev log_with : Option Traffic → List Logged → Option Traffic
log_with None ls = None
log_with (Some old) ls = Some (record old { log = old.log ++ ls })

log_with_is : (a : Option Traffic) (ls : List Logged) → GrowsLog a (log_with a ls) ls
log_with_is None ls = refl
log_with_is (Some old) ls = refl

-- entries behind another
log_behind : (a b : Option Traffic) (l : Logged) (ls : List Logged) → GrowsLog a b (l ∷ ls)
    → GrowsLog (log_with a (l ∷ [])) b ls
log_behind None b l ls is = is
log_behind (Some old) b l ls is =
    is ∙ ap (λ (ns : List Logged). Some (record old { log = ns })) (sym (append_assoc old.log (l ∷ []) ls))

-- the steps of these entries
abbrev pub all_entries : List Logged → List Step
all_entries ls = map Entry ls

-- entries that were gained were told, one after another
pub gains_entries : (line : Noted → List ℕ) (a b : Told) (ls : List Logged) → GainedMuch a b (logs ls)
    → Gains (telling line) a b (all_entries ls)
gains_entries line a b [] g =
    subst (λ (x : Told). Gains (telling line) a x []) (sym (left_same a b g)) (gains_none a)
gains_entries line a b (l ∷ ls) g =
    gains_one a mid b (Entry l) (all_entries ls) first (gains_entries line mid b ls rest)
  where
    mid : Told
    mid = record a { traffic = log_with a.traffic (l ∷ []); moment = moment_by l a.moment }

    first : GainedMuch a mid (logs (l ∷ []))
    first = record {
      noted = grows_none a.noted;
      put = grows_none a.put;
      log = log_with_is a.traffic (l ∷ []);
      puts = refl;
      calls = refl;
      moment = refl;
    }

    rest : GainedMuch mid b (logs ls)
    rest = record {
      noted = g.noted;
      put = g.put;
      log = log_behind a.traffic b.traffic l ls g.log;
      puts = g.puts;
      calls = g.calls;
      moment = g.moment;
    }

-- ---- events and entries among steps

pub made_both : (ss ts : List Step) → made_of (ss ++ ts) ≡ made_of ss ++ made_of ts
made_both [] ts = refl
made_both (Made n ∷ ss) ts = ap (λ (xs : List Step). Made n ∷ xs) (made_both ss ts)
made_both (Entry l ∷ ss) ts = made_both ss ts

pub made_none : (ls : List Logged) → made_of (all_entries ls) ≡ []
made_none [] = refl
made_none (l ∷ ls) = made_none ls

pub entries_both : (ss ts : List Step) → entries_of (ss ++ ts) ≡ entries_of ss ++ entries_of ts
entries_both [] ts = refl
entries_both (Made n ∷ ss) ts = entries_both ss ts
entries_both (Entry l ∷ ss) ts = ap (λ (xs : List Logged). l ∷ xs) (entries_both ss ts)

pub entries_all : (ls : List Logged) → entries_of (all_entries ls) ≡ ls
entries_all [] = refl
entries_all (l ∷ ls) = ap (λ (xs : List Logged). l ∷ xs) (entries_all ls)
