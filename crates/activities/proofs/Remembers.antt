-- What a seat remembers after a call of the hall.
use Rattle.std.proofs.Common.{◌≡◌, ℕ, Bool, true, false, if◌then◌else◌, MatchBool, List, [], ◌∷◌, ◌++◌, length, refl, sym, ap, ◌∙◌, subst, append_assoc, append-nil}
use Rattle.seat_lock.specs.Lists.{Begins, AllOf}
use Rattle.seat_lock.specs.Values.{SeatValue, with_rows, CallsTo}
use Rattle.stage_state.specs.declared.act.Act.{Act}
use Rattle.stage_state.specs.declared.reply.ActReply.{ActReply}
use Rattle.stage_state.specs.declared.played.Origin.{Origin}
use Rattle.stage_state.specs.Origins.{machine_at}
use Rattle.stage_state.specs.Replies.{reply_of, accepts}
use Rattle.activities.specs.Memory.{PlacedAct, SeatMemory, seen_in, own_in, by_others, own_act, placed_row, SeesMore, Remembers, ActsAt, Recalls, LooksOn, KeepsCard}

pub seen_in-append : (k l : SeatMemory) → seen_in (k ++ l) ≡ seen_in k ++ seen_in l
seen_in-append [] l = refl
seen_in-append (x ∷ k) l = ap (λ rest. x.1 ∷ rest) (seen_in-append k l)

own_first : (b : Bool) (r : PlacedAct) (k l : List PlacedAct) → (if b then r ∷ (k ++ l) else (k ++ l)) ≡ (if b then r ∷ k else k) ++ l
own_first true r k l = refl
own_first false r k l = refl

pub own_in-append : (k l : SeatMemory) → own_in (k ++ l) ≡ own_in k ++ own_in l
own_in-append [] l = refl
own_in-append (x ∷ k) l = ap (λ rest. if x.0 then x.1 ∷ rest else rest) (own_in-append k l) ∙ own_first x.0 x.1 (own_in k) (own_in l)

pub seen_in-by_others : (rows : List PlacedAct) → seen_in (by_others rows) ≡ rows
seen_in-by_others [] = refl
seen_in-by_others (r ∷ rows) = ap (λ rest. r ∷ rest) (seen_in-by_others rows)

pub own_in-by_others : (rows : List PlacedAct) → own_in (by_others rows) ≡ []
own_in-by_others [] = refl
own_in-by_others (r ∷ rows) = own_in-by_others rows

pub all-append : {A : Type 0} (P : A → Type 0) (xs ys : List A) → AllOf P xs → AllOf P ys → AllOf P (xs ++ ys)
all-append P [] ys h g = g
all-append P (x ∷ xs) ys h g = (h.0, all-append P xs ys h.1 g)

-- acts of others came
pub remembers_later : (k : SeatMemory) (s t : SeatValue PlacedAct Origin) → Remembers k s → Begins s.seen t.seen → t.own ≡ s.own → t.number ≡ s.number → LooksOn k t
remembers_later k s t is later own number = (
  k ++ by_others later.0,
  (later.0, refl),
  record {
    seen = seen_in-append k (by_others later.0) ∙ ap (λ rest. seen_in k ++ rest) (seen_in-by_others later.0) ∙ ap (λ front. front ++ later.0) is.seen ∙ later.1;
    own = own_in-append k (by_others later.0) ∙ ap (λ rest. own_in k ++ rest) (own_in-by_others later.0) ∙ append-nil (own_in k) ∙ is.own ∙ sym own;
    numbered = subst (λ (n : ℕ). AllOf (λ (r : PlacedAct). r.0 ≡ n) t.own) (sym number) (subst (λ (rows : List PlacedAct). AllOf (λ (r : PlacedAct). r.0 ≡ s.number) rows) (sym own) is.numbered);
  },
)

calls_act : (b : Bool) (log : List PlacedAct) (s t : SeatValue PlacedAct Origin) (a : Act)
    → MatchBool b (t ≡ with_rows s (log ++ (s.number, a) ∷ []) (s.own ++ (s.number, a) ∷ [])) (t ≡ with_rows s log s.own)
    → (t.seen ≡ log ++ placed_row b s.number a) × (t.own ≡ s.own ++ placed_row b s.number a)
calls_act true log s t a h = (ap (λ (u : SeatValue PlacedAct Origin). u.seen) h, ap (λ (u : SeatValue PlacedAct Origin). u.own) h)
calls_act false log s t a h = (ap (λ (u : SeatValue PlacedAct Origin). u.seen) h ∙ sym (append-nil log), ap (λ (u : SeatValue PlacedAct Origin). u.own) h ∙ sym (append-nil s.own))

-- what a call of the hall says
pub call_acts : (o : Origin) (s t : SeatValue PlacedAct Origin) (a : Act) (reply : ActReply)
    → CallsTo (λ o acts a. reply_of (machine_at o acts) a) (λ o acts a. accepts (machine_at o acts) a) (λ o acts seat a. (seat, a)) o a s reply t
    → ActsAt o a s reply t
call_acts o s t a reply calls =
    let h = calls_act (accepts (machine_at o calls.0) a) calls.0 s t a calls.3 in
    (calls.0, calls.1, calls.2, h.0, h.1)

-- an act was placed behind those that are remembered
pub remembers_mine : (b : Bool) (k : SeatMemory) (s t : SeatValue PlacedAct Origin) (log : List PlacedAct) (a : Act) → Remembers k s → seen_in k ≡ log
    → t.seen ≡ log ++ placed_row b s.number a → t.own ≡ s.own ++ placed_row b s.number a → t.number ≡ s.number
    → Remembers (k ++ own_act b s.number a) t
remembers_mine true k s t log a is at seen own number = record {
  seen = seen_in-append k ((true, (s.number, a)) ∷ []) ∙ ap (λ front. front ++ (s.number, a) ∷ []) at ∙ sym seen;
  own = own_in-append k ((true, (s.number, a)) ∷ []) ∙ ap (λ front. front ++ (s.number, a) ∷ []) is.own ∙ sym own;
  numbered = subst (λ (n : ℕ). AllOf (λ (r : PlacedAct). r.0 ≡ n) t.own) (sym number)
      (subst (λ (rows : List PlacedAct). AllOf (λ (r : PlacedAct). r.0 ≡ s.number) rows) (sym own)
      (all-append (λ (r : PlacedAct). r.0 ≡ s.number) s.own ((s.number, a) ∷ []) is.numbered (refl, tt)));
}
remembers_mine false k s t log a is at seen own number = record {
  seen = ap seen_in (append-nil k) ∙ at ∙ sym (append-nil log) ∙ sym seen;
  own = ap own_in (append-nil k) ∙ is.own ∙ sym (append-nil s.own) ∙ sym own;
  numbered = subst (λ (n : ℕ). AllOf (λ (r : PlacedAct). r.0 ≡ n) t.own) (sym number)
      (subst (λ (rows : List PlacedAct). AllOf (λ (r : PlacedAct). r.0 ≡ s.number) rows) (sym own)
      (all-append (λ (r : PlacedAct). r.0 ≡ s.number) s.own [] is.numbered tt));
}

pub recalls : (o : Origin) (k : SeatMemory) (s t : SeatValue PlacedAct Origin) (a : Act) (reply : ActReply) → Remembers k s → t.number ≡ s.number
    → ActsAt o a s reply t → Recalls o s.number k a reply t
recalls o k s t a reply is number acts =
    let log = acts.0 in
    let later = remembers_later k s (with_rows s log s.own) is acts.1 refl refl in
    let at = later.0 in
    let same : log ≡ seen_in at = sym later.2.seen in
    let P : List PlacedAct → Type 0 = λ rows. (t.seen ≡ log ++ placed_row (accepts (machine_at o rows) a) s.number a)
    × (t.own ≡ s.own ++ placed_row (accepts (machine_at o rows) a) s.number a) in
    let h : P (seen_in at) = subst P same (acts.3, acts.4) in (
      at,
      later.1,
      acts.2 ∙ ap (λ rows. reply_of (machine_at o rows) a) same,
      remembers_mine (accepts (machine_at o (seen_in at)) a) at (with_rows s log s.own) t log a later.2 later.2.seen h.0 h.1 number,
    )

pub same_card : (s t u : SeatValue PlacedAct Origin) → KeepsCard s t → KeepsCard t u → KeepsCard s u
same_card s t u h g = record { number = g.number ∙ h.number; index = g.index ∙ h.index; made = g.made ∙ h.made }
