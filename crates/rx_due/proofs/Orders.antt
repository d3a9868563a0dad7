-- The order of a heap with a hole: as the hole moves, and when it is filled. Ranks are any numbers here.
use Rattle.std.proofs.Common.{◌≡◌, ◌<◌, ◌≤◌, ℕ, ◌-◌, ◌/◌, suc, zero, ap, ◌∙◌, arith, inl, inr}
use Rattle.std.proofs.lemmas.Bool.{cases_eq}
use Rattle.rx_due.specs.Heap.{IsBelow, Passes}

-- a cell gets the rank of another, the next hole
pub record Moved (f f' : ℕ → ℕ) (hole from : ℕ) : Type 0 where
  pub got : f' hole ≡ f from
  pub others : (i : ℕ) → (i ≡ hole → ⊥) → f' i ≡ f i

module _ (f f' : ℕ → ℕ) (n hole : ℕ) where
  lifted_order : (p : ℕ) → IsBelow p hole → Passes f n hole → Moved f f' hole p → (i c : ℕ) → IsBelow i c → c < n
      → (i ≡ p → ⊥) → (c ≡ p → ⊥) → f' i ≤ f' c
  lifted_order p above was now i c below within i_apart c_apart =
      elim (cases_eq i hole) [
        | inl i_is ↦ (
            let got : f' i ≡ f p = ap f' i_is ∙ now.got in
            let here : IsBelow hole c =
            record { from = omega (arith, below.from, i_is); to = omega (arith, below.to, i_is) } in
            let le = was.past p c above here within in
            let c_same = now.others c (λ (e : c ≡ hole). omega (arith, e, here.from)) in
            omega (arith, got, le, c_same))
        | inr i_not ↦ elim (cases_eq c hole) [
          | inl c_is ↦ absurd (i_apart (omega (arith, below.from, below.to, above.from, above.to, c_is)))
          | inr c_not ↦ (
              let le = was.order i c below within i_not c_not in
              omega (arith, le, now.others i i_not, now.others c c_not))
        ]
      ]

  lifted_past : (p : ℕ) → hole < n → IsBelow p hole → Passes f n hole → Moved f f' hole p → (i c : ℕ) → IsBelow i p
      → IsBelow p c → c < n → f' i ≤ f' c
  lifted_past p room above was now i c up down within =
      let i_not : i ≡ hole → ⊥ = λ e. omega (arith, e, up.from, above.from) in
      let p_not : p ≡ hole → ⊥ = λ e. omega (arith, e, above.from) in
      let first = was.order i p up (omega (arith, above.from, room)) i_not p_not in
      elim (cases_eq c hole) [
        | inl c_is ↦ (
            let got : f' c ≡ f p = ap f' c_is ∙ now.got in
            omega (arith, got, first, now.others i i_not))
        | inr c_not ↦ (
            let le = was.order p c down within p_not c_not in
            omega (arith, le, first, now.others i i_not, now.others c c_not))
      ]

  -- the hole goes up: what stood above it is written there
  pub lifted : (p : ℕ) → hole < n → IsBelow p hole → Passes f n hole → Moved f f' hole p → Passes f' n p
  lifted p room above was now = record {
    order = lifted_order p above was now;
    past = lifted_past p room above was now;
  }

  sunk_order : (d : ℕ) → IsBelow hole d → d < n → ((c : ℕ) → IsBelow hole c → c < n → f d ≤ f c) → Passes f n hole
      → Moved f f' hole d → (i c : ℕ) → IsBelow i c → c < n → (i ≡ d → ⊥) → (c ≡ d → ⊥) → f' i ≤ f' c
  sunk_order d under room least was now i c below within i_apart c_apart =
      elim (cases_eq i hole) [
        | inl i_is ↦ (
            let got : f' i ≡ f d = ap f' i_is ∙ now.got in
            let here : IsBelow hole c =
            record { from = omega (arith, below.from, i_is); to = omega (arith, below.to, i_is) } in
            let le = least c here within in
            let c_same = now.others c (λ (e : c ≡ hole). omega (arith, e, here.from)) in
            omega (arith, got, le, c_same))
        | inr i_not ↦ elim (cases_eq c hole) [
          | inl c_is ↦ (
              let got : f' c ≡ f d = ap f' c_is ∙ now.got in
              let here : IsBelow i hole =
              record { from = omega (arith, below.from, c_is); to = omega (arith, below.to, c_is) } in
              let le = was.past i d here under room in
              omega (arith, got, le, now.others i i_not))
          | inr c_not ↦ (
              let le = was.order i c below within i_not c_not in
              omega (arith, le, now.others i i_not, now.others c c_not))
        ]
      ]

  sunk_past : (d : ℕ) → IsBelow hole d → Passes f n hole → Moved f f' hole d → (i c : ℕ) → IsBelow i d → IsBelow d c
      → c < n → f' i ≤ f' c
  sunk_past d under was now i c up down within =
      let i_is : i ≡ hole = omega (arith, up.from, up.to, under.from, under.to) in
      let got : f' i ≡ f d = ap f' i_is ∙ now.got in
      let d_not : d ≡ hole → ⊥ = λ e. omega (arith, e, under.from) in
      let c_not : c ≡ hole → ⊥ = λ e. omega (arith, e, under.from, down.from) in
      let le = was.order d c down within d_not c_not in
      omega (arith, got, le, now.others c c_not)

  -- the hole goes down: the least below it is written there
  pub sunk : (d : ℕ) → IsBelow hole d → d < n → ((c : ℕ) → IsBelow hole c → c < n → f d ≤ f c) → Passes f n hole
      → Moved f f' hole d → Passes f' n d
  sunk d under room least was now = record {
    order = sunk_order d under room least was now;
    past = sunk_past d under was now;
  }

  -- a rank that fits between above and below fills the hole
  pub filled : (r : ℕ) → f' hole ≡ r → ((i : ℕ) → (i ≡ hole → ⊥) → f' i ≡ f i) → Passes f n hole
      → ((i : ℕ) → IsBelow i hole → f i ≤ r) → ((c : ℕ) → IsBelow hole c → c < n → r ≤ f c) → (i c : ℕ) → IsBelow i c
      → c < n → f' i ≤ f' c
  filled r got others was above below i c under within =
      elim (cases_eq i hole) [
        | inl i_is ↦ (
            let here : IsBelow hole c =
            record { from = omega (arith, under.from, i_is); to = omega (arith, under.to, i_is) } in
            let le = below c here within in
            let c_same = others c (λ (e : c ≡ hole). omega (arith, e, here.from)) in
            let is = ap f' i_is in
            omega (arith, is, got, le, c_same))
        | inr i_not ↦ elim (cases_eq c hole) [
          | inl c_is ↦ (
              let here : IsBelow i hole =
              record { from = omega (arith, under.from, c_is); to = omega (arith, under.to, c_is) } in
              let le = above i here in
              let is = ap f' c_is in
              omega (arith, is, got, le, others i i_not))
          | inr c_not ↦ (
              let le = was.order i c under within i_not c_not in
              omega (arith, le, others i i_not, others c c_not))
        ]
      ]

-- a whole order has room for any hole
pub opened : (f : ℕ → ℕ) (n m hole : ℕ) → m ≤ n → ((i c : ℕ) → IsBelow i c → c < n → f i ≤ f c) → Passes f m hole
opened f n m hole fewer whole = record {
  order = λ i c under within _ _. whole i c under (omega (arith, within, fewer));
  past = λ i c up down within. let first = whole i hole up (omega (arith, down.from, within, fewer)) in let second =
      whole hole c down (omega (arith, within, fewer)) in omega (arith, first, second);
}

root_up_to : (f : ℕ → ℕ) (n : ℕ) → ((i c : ℕ) → IsBelow i c → c < n → f i ≤ f c) → (m c : ℕ) → c ≤ m → c < n → f 0 ≤ f c
root_up_to f n whole zero c most within = let is : c ≡ 0 = omega (arith, most) in omega (arith, ap f is)
root_up_to f n whole (suc m) c most within =
    elim (cases_eq c 0) [
      | inl is ↦ omega (arith, ap f is)
      | inr some ↦ (
          let up = (c - 1) / 2 in
          let under : IsBelow up c = record { from = omega (arith, some); to = omega (arith, some) } in
          let rest = root_up_to f n whole m up (omega (arith, under.from, most)) (omega (arith, under.from, within)) in
          let last = whole up c under within in
          omega (arith, rest, last))
    ]

-- no rank is below that of the first cell
pub root_least : (f : ℕ → ℕ) (n : ℕ) → ((i c : ℕ) → IsBelow i c → c < n → f i ≤ f c) → (c : ℕ) → c < n → f 0 ≤ f c
root_least f n whole c within = root_up_to f n whole c c (omega arith) within
