-- Calls that wait, one more and one fewer.
use Rattle.std.proofs.Common.{◌≡◌, ℕ, ◌≤◌, List, [], ◌∷◌, ◌++◌, refl, ap, arith}
use Rattle.troop_entry.specs.declared.call.Call.TheVariants.{Join, Leave, Edit, Eval, Reset}
use Rattle.ot_text.specs.Change.{Change}
use Rattle.troop_entry.specs.declared.call.Call.{Call}
use Rattle.agreement.specs.Agreement.{SeenRises, edits_among}

-- the highest is no lower than the lowest
pub rises_between : (lo hi : ℕ) (cs : List Call) → SeenRises lo hi cs → lo ≤ hi
rises_between lo hi [] a = a
rises_between lo hi (Join name lang ∷ cs) a = absurd a
rises_between lo hi (Leave ∷ cs) a = absurd a
rises_between lo hi (Edit s o ∷ cs) a = omega (arith, a.0, rises_between s hi cs a.1)
rises_between lo hi (Eval s t ∷ cs) a = omega (arith, a.0, rises_between s hi cs a.1)
rises_between lo hi (Reset s t ∷ cs) a = omega (arith, a.0, rises_between s hi cs a.1)

-- the bounds may be further apart
pub rises_wider : (lo hi lo' hi' : ℕ) (cs : List Call) → lo' ≤ lo → hi ≤ hi' → SeenRises lo hi cs → SeenRises lo' hi' cs
rises_wider lo hi lo' hi' [] l h a = omega arith
rises_wider lo hi lo' hi' (Join name lang ∷ cs) l h a = absurd a
rises_wider lo hi lo' hi' (Leave ∷ cs) l h a = absurd a
rises_wider lo hi lo' hi' (Edit s o ∷ cs) l h a = (omega (arith, a.0), rises_wider s hi s hi' cs (omega arith) h a.1)
rises_wider lo hi lo' hi' (Eval s t ∷ cs) l h a = (omega (arith, a.0), rises_wider s hi s hi' cs (omega arith) h a.1)
rises_wider lo hi lo' hi' (Reset s t ∷ cs) l h a = (omega (arith, a.0), rises_wider s hi s hi' cs (omega arith) h a.1)

-- calls behind calls that have seen no more
pub rises-append : (lo mid hi : ℕ) (cs ds : List Call) → SeenRises lo mid cs → SeenRises mid hi ds → SeenRises lo hi (cs ++ ds)
rises-append lo mid hi [] ds a b = rises_wider mid hi lo hi ds a (omega arith) b
rises-append lo mid hi (Join name lang ∷ cs) ds a b = absurd a
rises-append lo mid hi (Leave ∷ cs) ds a b = absurd a
rises-append lo mid hi (Edit s o ∷ cs) ds a b = (a.0, rises-append s mid hi cs ds a.1 b)
rises-append lo mid hi (Eval s t ∷ cs) ds a b = (a.0, rises-append s mid hi cs ds a.1 b)
rises-append lo mid hi (Reset s t ∷ cs) ds a b = (a.0, rises-append s mid hi cs ds a.1 b)

-- the edits among two lists of calls
pub edits_among-append : (cs ds : List Call) → edits_among (cs ++ ds) ≡ edits_among cs ++ edits_among ds
edits_among-append [] ds = refl
edits_among-append (Join name lang ∷ cs) ds = edits_among-append cs ds
edits_among-append (Leave ∷ cs) ds = edits_among-append cs ds
edits_among-append (Edit s o ∷ cs) ds = ap (λ es. (s, o) ∷ es) (edits_among-append cs ds)
edits_among-append (Eval s t ∷ cs) ds = edits_among-append cs ds
edits_among-append (Reset s t ∷ cs) ds = edits_among-append cs ds

-- the edit among the calls has seen no more than their highest
pub seen_within : (low high : ℕ) (calls : List Call) (e : ℕ × Change) (es : List (ℕ × Change)) → SeenRises low high calls → edits_among calls ≡ e ∷ es → e.0 ≤ high
seen_within low high [] e es a is = absurd (cc)
seen_within low high (Join name lang ∷ calls) e es a is = absurd a
seen_within low high (Leave ∷ calls) e es a is = absurd a
seen_within low high (Edit seen op ∷ calls) e es a is =
    let same : (seen, op) ≡ e = cc in
    let n : seen ≡ e.0 = ap (λ (p : ℕ × Change). p.0) same in
    omega (arith, n, rises_between seen high calls a.1)
seen_within low high (Eval seen text ∷ calls) e es a is = seen_within seen high calls e es a.1 is
seen_within low high (Reset seen text ∷ calls) e es a is = seen_within seen high calls e es a.1 is

-- the calls behind the first ones
pub rises_suffix : (lo hi : ℕ) (cs ds : List Call) → SeenRises lo hi (cs ++ ds) → SeenRises lo hi ds
rises_suffix lo hi [] ds a = a
rises_suffix lo hi (Join name lang ∷ cs) ds a = absurd a
rises_suffix lo hi (Leave ∷ cs) ds a = absurd a
rises_suffix lo hi (Edit s o ∷ cs) ds a = rises_wider s hi lo hi ds a.0 (omega arith) (rises_suffix s hi cs ds a.1)
rises_suffix lo hi (Eval s t ∷ cs) ds a = rises_wider s hi lo hi ds a.0 (omega arith) (rises_suffix s hi cs ds a.1)
rises_suffix lo hi (Reset s t ∷ cs) ds a = rises_wider s hi lo hi ds a.0 (omega arith) (rises_suffix s hi cs ds a.1)
