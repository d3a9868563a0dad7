-- The least item of a node, found channel by channel.
use Rattle.std.proofs.Common.{◌≡◌, ◌<◌, ◌+◌, ◌*◌, ◌/◌, ◌%◌, ℕ, zero, suc, Bool, true, false, List, [], ◌∷◌, ◌++◌}
use Rattle.std.proofs.Common.{length, map, take, filter}
use Rattle.std.proofs.Common.{Option, Some, None, option_map, refl, ◌∙◌, ap, sym, subst, arith, if◌then◌else◌}
use Rattle.std.proofs.Common.{append-nil}
use Rattle.std.proofs.lemmas.Bool.Decides.{nat_tests}
use Rattle.std.specs.Prelude.{slice_get, nat_le}
use Rattle.rx_model.specs.Names.{Channel}
use Rattle.rx_rules.specs.Items.{Item, all_channels, channel_items, items, items_on}
use Rattle.rx_rules.specs.Least.{least_by, lesser_by}
use Rattle.rx_rules.specs.Looks.{ConnLooks, Looks}
use Rattle.rx_rules.specs.Setup.{Setup}
use Rattle.rx_node.specs.Due.{lesser_of}
use Rattle.rx_node.specs.Mirrors.{IsChannel, channel_in}

-- ---- the least of a list

lesser-thrice : {X : Type 0} (rank : X → ℕ) (x : X) (a b : Option X)
    → lesser_by rank x (lesser_of rank a b) ≡ lesser_by rank (lesser_by rank x a) b
lesser-thrice rank x None b = refl
lesser-thrice rank x (Some y) None = refl
lesser-thrice rank x (Some y) (Some z) =
    (elim (nat_le (rank y) (rank z)) as (λ b. nat_le (rank y) (rank z) ≡ b
    → (if nat_le (rank x) (rank (if b then y else z)) then x else (if b then y else z))
    ≡ lesser_by rank (if nat_le (rank x) (rank y) then x else y) (Some z)) [
      | true ↦ λ yz. (elim (nat_le (rank x) (rank y)) as (λ b. nat_le (rank x) (rank y) ≡ b
          → (if b then x else y) ≡ lesser_by rank (if b then x else y) (Some z)) [
            | true ↦ λ xy. (let xz : nat_le (rank x) (rank z) ≡ true = grind (arith, nat_tests, yz, xy) in rw xz refl)
            | false ↦ λ xy. rw yz refl
          ]) refl
      | false ↦ λ yz. (elim (nat_le (rank x) (rank y)) as (λ b. nat_le (rank x) (rank y) ≡ b
          → (if nat_le (rank x) (rank z) then x else z) ≡ lesser_by rank (if b then x else y) (Some z)) [
            | true ↦ λ xy. refl
            | false ↦ λ xy. (let xz : nat_le (rank x) (rank z) ≡ false =
                grind (arith, nat_tests, yz, xy) in rw (xz, yz) refl)
          ]) refl
    ]) refl

-- of two lists, one behind the other
pub least_join : {X : Type 0} (rank : X → ℕ) (xs ys : List X)
    → least_by rank (xs ++ ys) ≡ lesser_of rank (least_by rank xs) (least_by rank ys)
least_join rank [] ys = refl
least_join rank (x ∷ xs) ys =
    ap (λ (o : Option _). Some (lesser_by rank x o)) (least_join rank xs ys)
    ∙ ap (λ (y : _). Some y) (lesser-thrice rank x (least_by rank xs) (least_by rank ys))

-- of a list whose elements become others of the same ranks
pub least_map : {X Y : Type 0} (rank : X → ℕ) (after : Y → ℕ) (f : X → Y) (xs : List X)
    → ((x : X) → after (f x) ≡ rank x) → least_by after (map f xs) ≡ option_map f (least_by rank xs)
least_map rank after f [] same = refl
least_map rank after f (x ∷ xs) same =
    ap (λ (o : Option _). Some (lesser_by after (f x) o)) (least_map rank after f xs same)
    ∙ ap (λ (y : _). Some y) (of (least_by rank xs))
  where
    of : (o : Option _) → lesser_by after (f x) (option_map f o) ≡ f (lesser_by rank x o)
    of None = refl
    of (Some z) =
        ap (λ (n : ℕ). if nat_le n (after (f z)) then f x else f z) (same x)
        ∙ ap (λ (n : ℕ). if nat_le (rank x) n then f x else f z) (same z)
        ∙ either (nat_le (rank x) (rank z))
      where
        either : (b : Bool) → (if b then f x else f z) ≡ f (if b then x else z)
        either true = refl
        either false = refl

-- one of which the rank is at most this
abbrev pub within_rank : {X : Type 0} → (X → ℕ) → ℕ → Option X → Option X
within_rank rank now None = None
within_rank rank now (Some x) = if nat_le (rank x) now then Some x else None

within-lesser : {X : Type 0} (rank : X → ℕ) (now : ℕ) (x : X) (o : Option X)
    → (if nat_le (rank x) now then Some (lesser_by rank x (within_rank rank now o)) else within_rank rank now o)
    ≡ within_rank rank now (Some (lesser_by rank x o))
within-lesser rank now x None = refl
within-lesser rank now x (Some y) =
    (elim (nat_le (rank x) (rank y)) as (λ b. nat_le (rank x) (rank y) ≡ b
    → (if nat_le (rank x) now then Some (lesser_by rank x (within_rank rank now (Some y))) else within_rank
    rank now (Some y))
    ≡ within_rank rank now (Some (if b then x else y))) [
      | true ↦ λ xy. (elim (nat_le (rank x) now) as (λ b. nat_le (rank x) now ≡ b
          → (if b then Some (lesser_by rank x (within_rank rank now (Some y))) else within_rank rank now (Some y))
          ≡ (if b then Some x else None)) [
            | true ↦ λ xn. first xy (nat_le (rank y) now)
            | false ↦ λ xn. (let yn : nat_le (rank y) now ≡ false = grind (arith, nat_tests, xy, xn) in rw yn refl)
          ]) refl
      | false ↦ λ xy. (elim (nat_le (rank y) now) as (λ b. nat_le (rank y) now ≡ b
          → (if nat_le (rank x) now then Some (lesser_by rank x (if b then Some y else None))
          else (if b then Some y else None))
          ≡ (if b then Some y else None)) [
            | true ↦ λ yn. rw xy (both (nat_le (rank x) now))
            | false ↦ λ yn. (let xn : nat_le (rank x) now ≡ false = grind (arith, nat_tests, xy, yn) in rw xn refl)
          ]) refl
    ]) refl
  where
    first : nat_le (rank x) (rank y) ≡ true → (b : Bool)
        → Some (lesser_by rank x (if b then Some y else None)) ≡ Some x
    first xy true = rw xy refl
    first xy false = refl

    both : (b : Bool) → (if b then Some y else Some y) ≡ Some y
    both true = refl
    both false = refl

-- the least of those within a rank is the least, where that is within it
pub least_within : {X : Type 0} (rank : X → ℕ) (now : ℕ) (xs : List X)
    → least_by rank (filter (λ x. nat_le (rank x) now) xs) ≡ within_rank rank now (least_by rank xs)
least_within rank now [] = refl
least_within rank now (x ∷ xs) =
    (elim (nat_le (rank x) now) as (λ b. least_by rank (if b then x ∷ filter (λ x. nat_le (rank x) now) xs
    else filter (λ x. nat_le (rank x) now) xs)
    ≡ (if b then Some (lesser_by rank x (within_rank rank now (least_by rank xs)))
    else within_rank rank now (least_by rank xs))) [
      | true ↦ ap (λ (o : Option _). Some (lesser_by rank x o)) (least_within rank now xs)
      | false ↦ least_within rank now xs
    ])
    ∙ within-lesser rank now x (least_by rank xs)

-- ---- channels in the order of their keys

pub items_join : (s : Setup) (l : Looks) (cs ds : List Channel)
    → items_on s l (cs ++ ds) ≡ items_on s l cs ++ items_on s l ds
items_join s l [] ds = refl
items_join s l (c ∷ cs) ds = ap (λ (is : List Item). channel_items s l c ++ is) (items_join s l cs ds)
    ∙ assoc (channel_items s l c) (items_on s l cs) (items_on s l ds)
  where
    assoc : (xs ys zs : List Item) → xs ++ (ys ++ zs) ≡ (xs ++ ys) ++ zs
    assoc [] ys zs = refl
    assoc (x ∷ xs) ys zs = ap (λ (is : List Item). x ∷ is) (assoc xs ys zs)

-- the channel with a key stands there
pub channel_with : (rs : List ConnLooks) (place chan : ℕ) (x : ConnLooks) → slice_get rs place ≡ Some x → chan < 4
    → slice_get (all_channels rs) (4 * place + chan) ≡ Some (channel_in x chan)
channel_with [] place chan x there low = absurd (cc (there))
channel_with (r ∷ rs) zero chan x there low =
    (let n : 4 * 0 + chan ≡ chan = omega arith in
    subst (λ (k : ℕ). slice_get (all_channels (r ∷ rs)) k ≡ Some (channel_in x chan)) (sym n) (of chan low))
  where
    is : r ≡ x
    is = cc (there)

    of : (n : ℕ) → n < 4 → slice_get (all_channels (r ∷ rs)) n ≡ Some (channel_in x n)
    of zero low = ap (λ (q : ConnLooks). Some (channel_in q 0)) is
    of (suc zero) low = ap (λ (q : ConnLooks). Some (channel_in q 1)) is
    of (suc (suc zero)) low = ap (λ (q : ConnLooks). Some (channel_in q 2)) is
    of (suc (suc (suc zero))) low = ap (λ (q : ConnLooks). Some (channel_in q 3)) is
    of (suc (suc (suc (suc n)))) low = absurd (omega arith)
channel_with (r ∷ rs) (suc place) chan x there low =
    (let n : 4 * suc place + chan ≡ suc (suc (suc (suc (4 * place + chan)))) = omega arith in
    subst (λ (k : ℕ). slice_get (all_channels (r ∷ rs)) k ≡ Some (channel_in x chan)) (sym n)
    (channel_with rs place chan x there low))

-- so many channels
pub count_channels : (rs : List ConnLooks) → length (all_channels rs) ≡ 4 * length rs
count_channels [] = refl
count_channels (r ∷ rs) = (let rest : length (all_channels rs) ≡ 4 * length rs = count_channels rs in omega arith)

take-next : {X : Type 0} (xs : List X) (n : ℕ) (x : X) → slice_get xs n ≡ Some x → take (suc n) xs ≡ take n xs ++ x ∷ []
take-next [] n x there = absurd (cc (there))
take-next (y ∷ ys) zero x there = (let is : y ≡ x = cc (there) in ap (λ (z : _). z ∷ []) is)
take-next (y ∷ ys) (suc n) x there = ap (λ (zs : List _). y ∷ zs) (take-next ys n x there)

-- the least item of the first so many channels
abbrev pub least_to : Setup → Looks → ℕ → Option Item
least_to s l n = least_by (λ i. i.rank) (items_on s l (take n (all_channels l.conns)))

-- with one channel more
pub least_next : (s : Setup) (l : Looks) (key : ℕ) (ch : Channel) → IsChannel l key ch
    → least_to s l (suc key) ≡ lesser_of (λ i. i.rank) (least_to s l key)
    (least_by (λ i. i.rank) (channel_items s l ch))
least_next s l key ch at =
    let n : 4 * (key / 4) + key % 4 ≡ key = omega arith in
    let there : slice_get (all_channels l.conns) key ≡ Some ch =
    ap (λ (k : ℕ). slice_get (all_channels l.conns) k) (sym n)
    ∙ channel_with l.conns (key / 4) (key % 4) at.conn at.there (omega arith)
    ∙ ap (λ (c : Channel). Some c) (sym at.is) in
    ap (λ (cs : List Channel). least_by (λ i. i.rank) (items_on s l cs))
    (take-next (all_channels l.conns) key ch there)
    ∙ ap (least_by (λ i. i.rank)) (items_join s l (take key (all_channels l.conns)) (ch ∷ [])
    ∙ ap (λ (is : List Item). items_on s l (take key (all_channels l.conns)) ++ is) (append-nil (channel_items s l ch)))
    ∙ least_join (λ i. i.rank) (items_on s l (take key (all_channels l.conns))) (channel_items s l ch)

take-all : {X : Type 0} (xs : List X) (n : ℕ) → length xs ≡ n → take n xs ≡ xs
take-all [] zero is = refl
take-all [] (suc n) is = refl
take-all (x ∷ xs) zero is = absurd (omega arith)
take-all (x ∷ xs) (suc n) is = ap (λ (zs : List _). x ∷ zs) (take-all xs n (omega arith))

-- of all of them
pub least_all : (s : Setup) (l : Looks) → least_to s l (4 * length l.conns) ≡ least_by (λ i. i.rank) (items s l)
least_all s l = ap (λ (cs : List Channel). least_by (λ i. i.rank) (items_on s l cs))
    (take-all (all_channels l.conns) (4 * length l.conns) (count_channels l.conns))
