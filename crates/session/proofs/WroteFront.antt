-- What was written: all of some bytes, or a front of them.
use Rattle.std.proofs.Common.{◌≡◌, inl, inr, ℕ, List, [], ◌∷◌, ◌++◌, map, length, length-append, arith, refl, sym, ap, ◌∙◌, subst, Option, Some, None, append_assoc}
use Rattle.std.proofs.lemmas.List.{append-nil, map-append}
use Rattle.std.specs.List.{concat}
use Rattle.seat_lock.specs.Lists.{Begins}
use Rattle.seat_lock.proofs.Begins.{begins_same, begins_more}
use Rattle.troop_ports.specs.Bytes.{at_end}
use Rattle.session.specs.declared.session_end.SessionEnd.{SessionEnd}
use Rattle.session.specs.Printed.{reply_line}
use Rattle.session.specs.Ends.{WroteFront, WroteLess, Wrote}
use Rattle.session.specs.Replies.{AnsweredLine, printed}
use Rattle.session.specs.UpLines.{WroteIntoLast}

-- bytes behind others
pub at_end-twice : (told : Option (List ℕ)) (a b : List ℕ) → at_end (at_end told a) b ≡ at_end told (a ++ b)
at_end-twice None a b = refl
at_end-twice (Some t) a b = ap Some (append_assoc t a b)

-- no bytes
pub at_end-nil : (told : Option (List ℕ)) → told ≡ at_end told []
at_end-nil None = refl
at_end-nil (Some t) = ap Some (sym (append-nil t))

-- two writes are one
pub wrote_on : (old mid new : Option (List ℕ)) (a b : List ℕ) → mid ≡ at_end old a → new ≡ at_end mid b → new ≡ at_end old (a ++ b)
wrote_on old mid new a b e f = f ∙ (ap (λ m. at_end m b) e ∙ at_end-twice old a b)

-- a write, and then a front
pub front_on : (old mid new : Option (List ℕ)) (a b : List ℕ) → mid ≡ at_end old a → WroteFront b mid new → WroteFront (a ++ b) old new
front_on old mid new a b e f = (a ++ f.0, (f.1.0, append_assoc a f.0 f.1.0 ∙ ap (λ l. a ++ l) f.1.1), wrote_on old mid new a f.0 e f.2)

-- the whole is a front
pub front_whole : (old new : Option (List ℕ)) (a : List ℕ) → new ≡ at_end old a → WroteFront a old new
front_whole old new a e = (a, begins_same a a refl, e)

-- so is nothing
pub front_none : (old new : Option (List ℕ)) (a : List ℕ) → new ≡ old → WroteFront a old new
front_none old new a e = ([], (a, refl), e ∙ at_end-nil old)

-- a front of the first bytes is one of all
pub front_more : (old new : Option (List ℕ)) (a b : List ℕ) → WroteFront a old new → WroteFront (a ++ b) old new
front_more old new a b f = (f.0, begins_more f.0 a b (a ++ b) f.1 refl, f.2)

-- a write, and then fewer bytes than the others
pub less_on : (old mid new : Option (List ℕ)) (a b : List ℕ) → mid ≡ at_end old a → WroteLess b mid new → WroteLess (a ++ b) old new
less_on old mid new a b e (front, begins, less, wrote) =
    let x = length-append a front in
    let y = length-append a b in
    (a ++ front, (begins.0, append_assoc a front begins.0 ∙ ap (λ l. a ++ l) begins.1), omega (arith, x, y, less), wrote_on old mid new a front e wrote)

-- fewer than the first bytes are fewer than all
pub less_more : (old new : Option (List ℕ)) (a b : List ℕ) → WroteLess a old new → WroteLess (a ++ b) old new
less_more old new a b (front, begins, less, wrote) =
    let y = length-append a b in
    (front, begins_more front a b (a ++ b) begins refl, omega (arith, y, less), wrote)

-- what a session wrote behind other bytes
pub wrote_behind : (so end : SessionEnd) (first owed : List ℕ) (old mid new : Option (List ℕ)) → mid ≡ at_end old first → Wrote so end owed mid new → Wrote so end (first ++ owed) old new
wrote_behind so end first owed old mid new e (inl (is, wrote)) = inl (is, wrote_on old mid new first owed e wrote)
wrote_behind so end first owed old mid new e (inr (broken, front)) = inr (broken, front_on old mid new first owed e front)

-- ---- one reply after the other

-- a write of all but the last, and then a front of that
pub into_last : (old mid new : Option (List ℕ)) (replies : List (List ℕ)) (last : List ℕ) → mid ≡ at_end old (concat replies) → WroteFront last mid new → WroteIntoLast (replies ++ last ∷ []) old new
into_last old mid new replies last e f = record {
  earlier = replies;
  last = last;
  split = refl;
  front = f.0;
  begins = f.1;
  is = wrote_on old mid new (concat replies) f.0 e f.2;
}

-- one reply in front
pub into_behind : (old mid new : Option (List ℕ)) (first : List ℕ) (replies : List (List ℕ)) → mid ≡ at_end old first → WroteIntoLast replies mid new → WroteIntoLast (first ∷ replies) old new
into_behind old mid new first replies e h = record {
  earlier = first ∷ h.earlier;
  last = h.last;
  split = ap (λ l. first ∷ l) h.split;
  front = h.front;
  begins = h.begins;
  is = wrote_on old mid new first (concat h.earlier ++ h.front) e h.is ∙ ap (at_end old) (sym (append_assoc first (concat h.earlier) h.front));
}

-- all of them
pub into_whole : (old new : Option (List ℕ)) (first : List ℕ) (replies : List (List ℕ)) → new ≡ at_end old (concat (first ∷ replies)) → WroteIntoLast (first ∷ replies) old new
into_whole old new first [] e = into_last old old new [] first (at_end-nil old) (first, begins_same first first refl, e ∙ ap (at_end old) (append-nil first))
into_whole old new first (next ∷ replies) e =
    into_behind old (at_end old first) new first (next ∷ replies) refl (into_whole (at_end old first) new next replies (e ∙ sym (at_end-twice old first (concat (next ∷ replies)))))

nothing_begins : (front more : List ℕ) → front ++ more ≡ [] → front ≡ []
nothing_begins [] more e = refl
nothing_begins (b ∷ front) more e = absurd (cc)

-- replies whose first one is empty were written behind an opening's reply
pub into_opened : (old mid new : Option (List ℕ)) (first : List ℕ) (replies : List (List ℕ)) → mid ≡ at_end old first → WroteIntoLast ([] ∷ replies) mid new → WroteIntoLast (first ∷ replies) old new
into_opened old mid new first replies e h = opened h.earlier h.last h.split h.front h.begins h.is
  where
    opened : (earlier : List (List ℕ)) (last : List ℕ) → [] ∷ replies ≡ earlier ++ last ∷ [] → (front : List ℕ) → Begins front last → new ≡ at_end mid (concat earlier ++ front) → WroteIntoLast (first ∷ replies) old new
    opened [] last split front begins is =
        let none : replies ≡ [] = cc in
        let empty : last ≡ [] = cc in
        let same : front ≡ [] = nothing_begins front begins.0 (begins.1 ∙ empty) in
        subst (λ (l : List (List ℕ)). WroteIntoLast (first ∷ l) old new) (sym none)
        (into_last old old new [] first (at_end-nil old) (front_whole old new first (is ∙ ap (at_end mid) same ∙ sym (at_end-nil mid) ∙ e)))
    opened (x ∷ earlier) last split front begins is =
        let empty : x ≡ [] = cc in
        let rest : replies ≡ earlier ++ last ∷ [] = cc in
        into_behind old mid new first replies e (record {
          earlier = earlier;
          last = last;
          split = rest;
          front = front;
          begins = begins;
          is = is ∙ ap (λ (y : List ℕ). at_end mid ((y ++ concat earlier) ++ front)) empty;
        })

-- ---- the replies to lines

-- each as it is written
abbrev pub reply_lines : List AnsweredLine → List (List ℕ)
reply_lines turns = map (λ (t : AnsweredLine). reply_line t.reply) turns

-- they are written one behind the other
pub replies_printed : (turns : List AnsweredLine) → concat (reply_lines turns) ≡ printed turns
replies_printed [] = refl
replies_printed (t ∷ turns) = ap (λ l. reply_line t.reply ++ l) (replies_printed turns)

-- all of them were written
pub all_into : (old new : Option (List ℕ)) (turns : List AnsweredLine) → new ≡ at_end old (printed turns) → WroteIntoLast ([] ∷ (reply_lines turns ++ [])) old new
all_into old new turns e = into_whole old new [] (reply_lines turns ++ []) (e ∙ ap (at_end old) (sym (ap concat (append-nil (reply_lines turns)) ∙ replies_printed turns)))

-- all of them, and then a front of one more
pub next_into : (old mid new : Option (List ℕ)) (turns : List AnsweredLine) (last : List ℕ) → mid ≡ at_end old (printed turns) → WroteFront last mid new → WroteIntoLast ([] ∷ (reply_lines turns ++ last ∷ [])) old new
next_into old mid new turns last e f = into_last old mid new ([] ∷ reply_lines turns) last (e ∙ ap (at_end old) (sym (replies_printed turns))) f

-- all of them, and then a front of the reply to one line more
pub turn_into : (old mid new : Option (List ℕ)) (turns : List AnsweredLine) (turn : AnsweredLine) → mid ≡ at_end old (printed turns) → WroteFront (reply_line turn.reply) mid new → WroteIntoLast ([] ∷ (reply_lines (turns ++ turn ∷ []) ++ [])) old new
turn_into old mid new turns turn e f =
    subst (λ (l : List (List ℕ)). WroteIntoLast ([] ∷ l) old new) (sym (append-nil (reply_lines (turns ++ turn ∷ [])) ∙ map-append (λ (t : AnsweredLine). reply_line t.reply) turns (turn ∷ [])))
    (next_into old mid new turns (reply_line turn.reply) e f)
