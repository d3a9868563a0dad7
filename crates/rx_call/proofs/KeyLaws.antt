-- The keys that aren't there, beside the calls: what the calls look like where one more or one fewer key is free.
use Rattle.std.proofs.Common.{◌≡◌, ◌≢◌, inl, inr, ◌<◌, ◌+◌, cond, true, false, ℕ, zero, suc, List, [], ◌∷◌, ◌++◌}
use Rattle.std.proofs.Common.{Option, Some, None, is_some, IsSome, IfSome, OnSome, IsSomeAnd, length, get_or, set, refl}
use Rattle.std.proofs.Common.{sym, ap, ◌∙◌, subst, arith, add-zero, zero-add, count_by}
use Rattle.std.specs.Prelude.{option_to_list}
use Rattle.std.specs.List.{flat_map}
use Rattle.std.specs.Option.{ForSome}
use Rattle.std.proofs.lemmas.Bool.{cases_Bool, cases_eq, false≢true}
use Rattle.std.proofs.lemmas.List.{ext_get_or, get_or-set_same, get_or-set_other, set-get_or, length-set, length_push}
use Rattle.std.proofs.lemmas.List.{append-nil}
use Rattle.std.proofs.lemmas.List.Sums.{sum_by-cons}
use Rattle.rx_pool.specs.Pool.{has, HasNoRepeat}
use Rattle.rx_pool.proofs.Numbers.{has_first, has_rest, has_push, no_repeat_push, no_repeat_front, no_repeat_last}
use Rattle.rx_call.specs.Standing.{EndOfCall, IsIdle}
use Rattle.rx_call.specs.Kept.{KeptCalls, call_under, with_call_under, slots_under, IsIdleOf, OthersStay}
use Rattle.rx_call.specs.Keys.{there_from, HasSoundKeys}
use Rattle.rx_call.proofs.Undisturbed.{idle_slots}
use Rattle.rx_call.proofs.CallsAt.{key_within, parts_at, count-set, one_if, some_of, some_and}
use Rattle.rx_model.specs.declared.pace.Pace.{Pace}

-- ---- by index

pub length-there : (free : List ℕ) (key : ℕ) (cs : List (Option EndOfCall)) →
    length (there_from free key cs) ≡ length cs
length-there free key [] = refl
length-there free key (c ∷ cs) = ap suc (length-there free (key + 1) cs)

get_or-there_from : (free : List ℕ) (key : ℕ) (cs : List (Option EndOfCall)) (i : ℕ) →
    get_or (there_from free key cs) i None ≡ cond (has (key + i) free) None (get_or cs i None)
get_or-there_from free key [] i =
    let none : Option EndOfCall = None in
    elim (has (key + i) free) as (λ b. none ≡ cond b none none) [ true ↦ refl | false ↦ refl ]
get_or-there_from free key (c ∷ cs) zero = ap (λ n. cond (has n free) None c) (sym (add-zero key))
get_or-there_from free key (c ∷ cs) (suc i) =
    let shift : key + 1 + i ≡ key + suc i = omega arith in
    get_or-there_from free (key + 1) cs i ∙ ap (λ n. cond (has n free) None (get_or cs i None)) shift

-- the call of a key that isn't free
pub get_or-there : (free : List ℕ) (cs : List (Option EndOfCall)) (i : ℕ) →
    get_or (there_from free 0 cs) i None ≡ cond (has i free) None (get_or cs i None)
get_or-there free cs i =
    get_or-there_from free 0 cs i ∙ ap (λ n. cond (has n free) None (get_or cs i None)) (zero-add i)

pub free_is_absent : (free : List ℕ) (cs : List (Option EndOfCall)) (i : ℕ) → has i free ≡ true →
    get_or (there_from free 0 cs) i None ≡ None
free_is_absent free cs i is = get_or-there free cs i ∙ ap (λ b. cond b None (get_or cs i None)) is

pub not_free : (free : List ℕ) (cs : List (Option EndOfCall)) (i : ℕ) → has i free ≡ false →
    get_or (there_from free 0 cs) i None ≡ get_or cs i None
not_free free cs i is = get_or-there free cs i ∙ ap (λ b. cond b None (get_or cs i None)) is

-- a key that is there isn't free
pub there_not_free : (free : List ℕ) (cs : List (Option EndOfCall)) (i : ℕ) →
    IsSome (get_or (there_from free 0 cs) i None) → has i free ≡ false
there_not_free free cs i there =
    elim (cases_Bool (has i free)) as (λ _. has i free ≡ false) [
      | inl is ↦ absurd (false≢true (sym (ap is_some (free_is_absent free cs i is)) ∙ there))
      | inr n ↦ n
    ]

pub some_there : (free : List ℕ) (cs : List (Option EndOfCall)) (i : ℕ) →
    IsSome (get_or (there_from free 0 cs) i None) → get_or (there_from free 0 cs) i None ≡ get_or cs i None
some_there free cs i there = not_free free cs i (there_not_free free cs i there)

-- ---- one key changes

-- it is enough to look at each key
there-set : (free after : List ℕ) (cs ds : List (Option EndOfCall)) (key : ℕ) (v : Option EndOfCall) →
    length ds ≡ length cs → key < length cs → get_or (there_from after 0 ds) key None ≡ v →
    ((q : ℕ) → q ≢ key → get_or (there_from after 0 ds) q None ≡ get_or (there_from free 0 cs) q None) →
    there_from after 0 ds ≡ set (there_from free 0 cs) key v
there-set free after cs ds key v size within this others =
    let long = length-there free 0 cs in
    ext_get_or None (there_from after 0 ds) (set (there_from free 0 cs) key v)
    (length-there after 0 ds ∙ size ∙ sym long ∙ sym (length-set (there_from free 0 cs) key v))
    (λ q lt. elim (cases_eq q key) as (λ _. get_or (there_from after 0 ds) q None
    ≡ get_or (set (there_from free 0 cs) key v) q None) [
      | inl same ↦ (
          let here = get_or-set_same (there_from free 0 cs) key v None (omega (arith, long, within)) in
          subst (λ n. get_or (there_from after 0 ds) n None ≡ get_or (set (there_from free 0 cs) key v) n None)
          (sym same) (this ∙ sym here))
      | inr apart ↦ others q apart ∙ sym (get_or-set_other (there_from free 0 cs) key q v None apart)
    ])

-- the slots of all, where one key holds the same ones
slots-set : (xs : List (Option EndOfCall)) (key : ℕ) (v : Option EndOfCall) → key < length xs →
    slots_under v ≡ slots_under (get_or xs key None) → flat_map slots_under (set xs key v) ≡ flat_map slots_under xs
slots-set xs key v lt same =
    let at = parts_at xs key lt in
    at.2 v ∙ ap (λ ss. at.0 ++ (ss ++ at.1)) same ∙ sym (at.2 (get_or xs key None))
    ∙ ap (flat_map slots_under) (set-get_or xs key None)

-- one key, whose call is idle, is free after and wasn't before
pub record Frees (cs : List (Option EndOfCall)) (pace : Pace) (free after : List ℕ) (key : ℕ) : Type 0 where
  pub absent : get_or (there_from after 0 cs) key None ≡ None
  pub idle : IsSomeAnd (get_or (there_from free 0 cs) key None) (IsIdleOf pace)
  pub others : (q : ℕ) → q ≢ key →
      get_or (there_from after 0 cs) q None ≡ get_or (there_from free 0 cs) q None
  pub live : count_by is_some (there_from after 0 cs) + 1 ≡ count_by is_some (there_from free 0 cs)
  pub slots : flat_map slots_under (there_from after 0 cs) ≡ flat_map slots_under (there_from free 0 cs)

pub frees : (cs : List (Option EndOfCall)) (pace : Pace) (free after : List ℕ) (key : ℕ) →
    after ≡ free ++ key ∷ [] → has key free ≡ false → IsSomeAnd (get_or cs key None) (IsIdleOf pace) →
    Frees cs pace free after key
frees cs pace free after key is apart idle =
    let found = some_of (get_or cs key None) (IsIdleOf pace) idle in
    let here : get_or (there_from free 0 cs) key None ≡ Some found.0 = not_free free cs key apart ∙ found.1 in
    let within = key_within cs key (ap is_some found.1) in
    let long : key < length (there_from free 0 cs) = key_within (there_from free 0 cs) key (ap is_some here) in
    let gone : get_or (there_from after 0 cs) key None ≡ None = (
    free_is_absent after cs key (ap (has key) is ∙ has_push key key free ∙ has_first key free)) in
    let same : (q : ℕ) → q ≢ key → has q after ≡ has q free = (λ q other.
    ap (has q) is ∙ has_push key q free ∙ has_rest key q free (λ e. other (sym e))) in
    let rest : (q : ℕ) → q ≢ key →
    get_or (there_from after 0 cs) q None ≡ get_or (there_from free 0 cs) q None = (λ q other.
    get_or-there after cs q ∙ ap (λ b. cond b None (get_or cs q None)) (same q other)
    ∙ sym (get_or-there free cs q)) in
    let list = there-set free after cs cs key None refl within gone rest in
    let count = count-set (there_from free 0 cs) key None long in
    let one = ap (λ o. one_if (is_some o)) here in
    let new = ap (count_by is_some) list in
    record {
      absent = gone;
      idle = some_and (get_or (there_from free 0 cs) key None) (IsIdleOf pace) found.0 here found.2;
      others = rest;
      live = omega (arith, count, one, new);
      slots =
          ap (flat_map slots_under) list
          ∙ slots-set (there_from free 0 cs) key None long
          (sym (ap slots_under here ∙ idle_slots found.0 found.2.idle));
    }

-- ---- what is kept

-- the calls whose keys aren't free, as a contract sees them
abbrev pub kept_calls : List (Option EndOfCall) → Pace → List ℕ → KeptCalls
kept_calls cs pace free = record { room = count_by is_some cs; pace = pace; by_key = there_from free 0 cs }

-- a free key is taken from the end
pub record Enters (cs : List (Option EndOfCall)) (pace : Pace) (capacity : ℕ) (free left : List ℕ)
    (o : Option ℕ) : Type 0 where
  pub kept : HasSoundKeys cs left pace capacity
  pub absent : IfSome o (λ key. get_or (there_from free 0 cs) key None ≡ None)
  pub idle : IfSome o (λ key. IsSomeAnd (get_or (there_from left 0 cs) key None) (IsIdleOf pace))
  pub others : IfSome o (OthersStay (kept_calls cs pace free) (kept_calls cs pace left))
  pub live : OnSome o (count_by is_some (there_from left 0 cs) ≡ count_by is_some (there_from free 0 cs) + 1)
  pub slots : flat_map slots_under (there_from left 0 cs) ≡ flat_map slots_under (there_from free 0 cs)

pub enters : (cs : List (Option EndOfCall)) (pace : Pace) (capacity : ℕ) (free left : List ℕ) (o : Option ℕ) →
    free ≡ left ++ option_to_list o → HasSoundKeys cs free pace capacity → Enters cs pace capacity free left o
enters cs pace capacity free left None is so =
    let same : free ≡ left = is ∙ append-nil left in
    record {
      kept = subst (λ (fs : List ℕ). HasSoundKeys cs fs pace capacity) same so;
      absent = tt;
      idle = tt;
      others = tt;
      live = tt;
      slots = ap (λ (fs : List ℕ). flat_map slots_under (there_from fs 0 cs)) (sym same);
    }
enters cs pace capacity free left (Some key) is so =
    let apart = subst HasNoRepeat is so.apart in
    let last = no_repeat_last key left apart in
    let had : has key free ≡ true = ap (has key) is ∙ has_push key key left ∙ has_first key left in
    let f = frees cs pace left free key is last (so.idle key had) in
    let live = f.live in
    let counted = so.counted in
    let size : length free ≡ length left + 1 = ap length is ∙ length_push left key in
    record {
      kept = record {
        apart = no_repeat_front key left apart;
        idle = λ q h. so.idle q (ap (has q) is ∙ has_push key q left ∙ has_later_of key q left h);
        counted = omega (arith, live, counted, size);
        room = so.room;
      };
      absent = f.absent;
      idle = f.idle;
      others = record { others = λ q other. sym (f.others q other); room = refl; pace = refl };
      live = omega (arith, live);
      slots = sym f.slots;
    }
  where
    has_later_of : (y q : ℕ) (xs : List ℕ) → has q xs ≡ true → has q (y ∷ xs) ≡ true
    has_later_of y q xs h =
        elim (cases_eq y q) as (λ _. has q (y ∷ xs) ≡ true) [
          | inl e ↦ ap (λ u. has u (y ∷ xs)) (sym e) ∙ has_first y xs
          | inr apart ↦ has_rest y q xs apart ∙ h
        ]

-- a key that is there, with an idle call, is put at the end of the free ones
pub record Leaves (cs : List (Option EndOfCall)) (pace : Pace) (capacity : ℕ) (free after : List ℕ)
    (key : ℕ) : Type 0 where
  pub kept : HasSoundKeys cs after pace capacity
  pub frees : Frees cs pace free after key

pub leaves : (cs : List (Option EndOfCall)) (pace : Pace) (capacity : ℕ) (free after : List ℕ) (key : ℕ) →
    after ≡ free ++ key ∷ [] → IsSomeAnd (get_or (there_from free 0 cs) key None) (IsIdleOf pace) →
    HasSoundKeys cs free pace capacity → Leaves cs pace capacity free after key
leaves cs pace capacity free after key is idle so =
    let found = some_of (get_or (there_from free 0 cs) key None) (IsIdleOf pace) idle in
    let there = ap is_some found.1 in
    let apart = there_not_free free cs key there in
    let under = some_and (get_or cs key None) (IsIdleOf pace) found.0
    (sym (some_there free cs key there) ∙ found.1) found.2 in
    let f = frees cs pace free after key is apart under in
    let live = f.live in
    let counted = so.counted in
    let size : length after ≡ length free + 1 = ap length is ∙ length_push free key in
    record {
      kept = record {
        apart = subst HasNoRepeat (sym is) (no_repeat_push key free so.apart apart);
        idle = λ q h. (elim (cases_eq key q) as (λ _. IsSomeAnd (get_or cs q None) (IsIdleOf pace)) [
          | inl e ↦ subst (λ n. IsSomeAnd (get_or cs n None) (IsIdleOf pace)) e under
          | inr other ↦
              so.idle q (sym (ap (has q) is ∙ has_push key q free ∙ has_rest key q free other) ∙ h)
        ]);
        counted = omega (arith, live, counted, size);
        room = so.room;
      };
      frees = f;
    }

-- what is asked of a call whose key leaves
pub of_calls : (calls : KeptCalls) (key : ℕ) → IsSomeAnd (call_under calls key) IsIdle →
    ForSome (call_under calls key) (λ c. c.pace ≡ calls.pace) →
    IsSomeAnd (call_under calls key) (IsIdleOf calls.pace)
of_calls calls key idle pace =
    let found = some_of (call_under calls key) IsIdle idle in
    some_and (call_under calls key) (IsIdleOf calls.pace) found.0 found.1
    (record { idle = found.2; pace_is = pace found.0 found.1 })

-- a call that is there is lent
pub lent_list : (cs : List (Option EndOfCall)) (free : List ℕ) (key : ℕ) (w : EndOfCall) →
    IsSome (get_or (there_from free 0 cs) key None) →
    there_from free 0 (set cs key (Some w)) ≡ set (there_from free 0 cs) key (Some w)
lent_list cs free key w there =
    let within = key_within cs key (ap is_some (sym (some_there free cs key there)) ∙ there) in
    let apart = there_not_free free cs key there in
    there-set free free cs (set cs key (Some w)) key (Some w) (length-set cs key (Some w)) within
    (not_free free (set cs key (Some w)) key apart ∙ get_or-set_same cs key (Some w) None within)
    (λ q other. get_or-there free (set cs key (Some w)) q
    ∙ ap (λ o. cond (has q free) None o) (get_or-set_other cs key q (Some w) None other)
    ∙ sym (get_or-there free cs q))

pub lent_count : (xs : List (Option EndOfCall)) (key : ℕ) (w : EndOfCall) → IsSome (get_or xs key None) →
    count_by is_some (set xs key (Some w)) ≡ count_by is_some xs
lent_count xs key w there =
    let more = count-set xs key (Some w) (key_within xs key there) in
    let one = ap one_if there in
    omega (arith, more, one)

pub lent_calls : (cs : List (Option EndOfCall)) (pace : Pace) (free : List ℕ) (key : ℕ) (w : EndOfCall) →
    IsSome (get_or (there_from free 0 cs) key None) →
    kept_calls (set cs key (Some w)) pace free ≡ with_call_under (kept_calls cs pace free) key w
lent_calls cs pace free key w there =
    let some : IsSome (get_or cs key None) = ap is_some (sym (some_there free cs key there)) ∙ there in
    ap (λ n. record { room = n; pace = pace; by_key = there_from free 0 (set cs key (Some w)) })
    (lent_count cs key w some)
    ∙ ap (λ ks. record { room = count_by is_some cs; pace = pace; by_key = ks }) (lent_list cs free key w there)

pub lent_kept : (cs : List (Option EndOfCall)) (free : List ℕ) (pace : Pace) (capacity key : ℕ) (w : EndOfCall) →
    IsSome (get_or (there_from free 0 cs) key None) → HasSoundKeys cs free pace capacity →
    HasSoundKeys (set cs key (Some w)) free pace capacity
lent_kept cs free pace capacity key w there so =
    let apart = there_not_free free cs key there in
    let some : IsSome (get_or cs key None) = ap is_some (sym (some_there free cs key there)) ∙ there in
    let counted = so.counted in
    let all = lent_count cs key w some in
    let live = ap (count_by is_some) (lent_list cs free key w there) ∙ lent_count (there_from free 0 cs) key w there in
    let room = so.room in
    record {
      apart = so.apart;
      idle = λ q h. (
          let other : q ≢ key = (λ e. false≢true (sym apart ∙ ap (λ n. has n free) (sym e) ∙ h)) in
          subst (λ (o : Option EndOfCall). IsSomeAnd o (IsIdleOf pace))
          (sym (get_or-set_other cs key q (Some w) None other)) (so.idle q h));
      counted = omega (arith, counted, all, live);
      room = omega (arith, all, room);
    }

-- ---- none is there

pub count_none : (xs : List (Option EndOfCall)) → ((i : ℕ) → get_or xs i None ≡ None) → count_by is_some xs ≡ 0
count_none [] none = refl
count_none (x ∷ xs) none =
    let rest = count_none xs (λ i. none (suc i)) in
    let first = ap (λ o. one_if (is_some o)) (none 0) in
    let more = sum_by-cons (λ (o : Option EndOfCall). one_if (is_some o)) x xs in
    omega (arith, rest, first, more)

pub slots_none : (xs : List (Option EndOfCall)) → ((i : ℕ) → get_or xs i None ≡ None) →
    flat_map slots_under xs ≡ []
slots_none [] none = refl
slots_none (x ∷ xs) none =
    ap (λ o. slots_under o ++ flat_map slots_under xs) (none 0) ∙ slots_none xs (λ i. none (suc i))
