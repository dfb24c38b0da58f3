-- Worked values of scripts: two commands, each of which is refused.
use Rattle.std.proofs.Common.{◌≡◌, ◌≢◌, ◌∙◌, ◌⊎◌, ℕ, zero, suc, List, [], ◌∷◌, ◌++◌, length, take, Option, Some, inl, inr, ⊎_elim, refl, sym, ap, subst, arith}
use Rattle.std.specs.Fmt.{digits}
use Rattle.trail.specs.State.{Account}
use Rattle.versions.specs.declared.version.Version.{Version}
use Rattle.versions.specs.declared.version.Version.TheVariants.{One}
use Rattle.qscript.specs.declared.command.Command.{Command}
use Rattle.qscript.specs.declared.command.Command.TheVariants.{Pop}
use Rattle.qscript.specs.Reads.{Ending as ScriptEnding, ReadsScript, done}
use Rattle.qscript.proofs.Outcomes.{computed_reading, one_reading}
use Rattle.solve.specs.declared.ending.Ending.{Ending}
use Rattle.solve.specs.declared.ending.Ending.TheVariants.{WriteFault}
use Rattle.session.specs.Replies.{IsReply, Leads, joined, refused_text}
use Rattle.solve.specs.Outputs.{Output, says}
use Rattle.session.specs.Scripts.{AreAnswered, AreFirst, IsReadOut, start_in}
use Rattle.solve.specs.Standing.{Standing, start}
use Rattle.solve.specs.Terms.{Terms}
use Rattle.session.specs.WorkedScripts.{one_refusal, two_pops, two_refusals}

-- both commands are read
pub both_read : ReadsScript two_pops (Some One) (Pop ∷ Pop ∷ []) done
both_read = computed_reading two_pops

-- the commands in front of some others are none, one or both
abbrev pub AreSome : List Command → Type 0
AreSome commands = (commands ≡ []) ⊎ (commands ≡ Pop ∷ []) ⊎ (commands ≡ Pop ∷ Pop ∷ [])

some_of : (commands rest : List Command) → commands ++ rest ≡ Pop ∷ Pop ∷ [] → AreSome commands
some_of [] rest e = inl refl
some_of (c ∷ []) rest e =
    let is : c ∷ rest ≡ Pop ∷ Pop ∷ [] = e in
    let first : c ≡ Pop = cc in inr (inl (ap (λ d. d ∷ []) first))
some_of (c ∷ d ∷ []) rest e =
    let is : c ∷ d ∷ rest ≡ Pop ∷ Pop ∷ [] = e in
    let first : c ≡ Pop = cc in
    let second : d ≡ Pop = cc in
    inr (inr (ap (λ x. x ∷ d ∷ []) first ∙ ap (λ x. Pop ∷ x ∷ []) second))
some_of (c ∷ d ∷ f ∷ commands) rest e =
    absurd (let n : suc (suc (suc (length (commands ++ rest)))) ≡ 2 = ap (λ (cs : List Command). length cs) e in
    omega (arith, n))

pub first_ones : (version : Option Version) (commands : List Command) → AreFirst two_pops version commands
    → AreSome commands
first_ones version commands (rest, ending, reads) =
    some_of commands rest
    (one_reading two_pops version (Some One) (commands ++ rest) (Pop ∷ Pop ∷ []) ending done reads both_read).1

-- they are by version 1
pub first_version : (version : Option Version) (commands : List Command) → AreFirst two_pops version commands
    → version ≡ Some One
first_version version commands (rest, ending, reads) =
    (one_reading two_pops version (Some One) (commands ++ rest) (Pop ∷ Pop ∷ []) ending done reads both_read).0

pub at_start : (version : Option Version) (commands : List Command) → AreFirst two_pops version commands
    → start_in version ≡ start
at_start version commands first = ap start_in (first_version version commands first)

pub all_ones : (version : Option Version) (commands : List Command) (ending : ScriptEnding)
    → ReadsScript two_pops version commands ending → commands ≡ Pop ∷ Pop ∷ []
all_ones version commands ending reads =
    (one_reading two_pops version (Some One) commands (Pop ∷ Pop ∷ []) ending done reads both_read).1

-- the replies to them, on any terms
module _ (terms : Terms) where
  pub no_reply : (out : Output) (after : Standing) → Leads terms start [] out after → out ≡ says []
  no_reply out after leads = leads.0

  pub one_reply : (s : Standing) → s ≡ start → (out : Output) (after : Standing)
      → Leads terms s (Pop ∷ []) out after → out ≡ says one_refusal
  unfolding digits
  one_reply s is out after (first, rest, next, parts, reply, behind) =
      let replied : IsReply terms start Pop first next = subst (λ t. IsReply terms t Pop first next) is reply in
      parts ∙ ap (λ o. joined o rest) replied.0 ∙ ap (joined (says (refused_text 40))) behind.0

  pub two_replies : (out : Output) (after : Standing) → Leads terms start (Pop ∷ Pop ∷ []) out after
      → out ≡ says two_refusals
  unfolding digits
  two_replies out after (first, rest, next, parts, reply, behind) =
      parts ∙ ap (λ o. joined o rest) reply.0
      ∙ ap (joined (says (refused_text 40))) (one_reply next reply.1 rest after behind)

  pub leads_one : Leads terms start (Pop ∷ []) (says one_refusal) start
  unfolding digits
  leads_one = (says one_refusal, says [], start, refl, (refl, refl), (refl, refl))

  pub leads_two : Leads terms start (Pop ∷ Pop ∷ []) (says two_refusals) start
  unfolding digits
  leads_two = (says one_refusal, says one_refusal, start, refl, (refl, refl), leads_one)

  -- what replies to some of them may be
  pub some_reply : (commands : List Command) → AreSome commands → (out : Output) (after : Standing)
      → Leads terms start commands out after
      → (out ≡ says []) ⊎ (out ≡ says one_refusal) ⊎ (out ≡ says two_refusals)
  some_reply commands are out after leads = ⊎_elim
      (λ none. inl (no_reply out after (subst (λ cs. Leads terms start cs out after) none leads)))
      (⊎_elim
      (λ one. inr (inl (one_reply start refl out after (subst (λ cs. Leads terms start cs out after) one leads))))
      (λ two. inr (inr (two_replies out after (subst (λ cs. Leads terms start cs out after) two leads)))))
      are

-- each of them has a length of its own, and begins with the same byte
pub reply_length : (out : Output) → (out ≡ says []) ⊎ (out ≡ says one_refusal) ⊎ (out ≡ says two_refusals) → (n : ℕ)
    → length out.text ≡ n → (n ≡ 0) ⊎ (n ≡ 11) ⊎ (n ≡ 22)
reply_length out is n e = ⊎_elim
    (λ none. inl (sym e ∙ ap (λ (o : Output). length o.text) none))
    (⊎_elim (λ one. inr (inl (sym e ∙ ap (λ (o : Output). length o.text) one)))
    (λ two. inr (inr (sym e ∙ ap (λ (o : Output). length o.text) two)))) is

abbrev pub head_or : List ℕ → ℕ
head_or [] = 114
head_or (x ∷ xs) = x

pub head_of : (out : Output) → (out ≡ says []) ⊎ (out ≡ says one_refusal) ⊎ (out ≡ says two_refusals)
    → head_or out.text ≡ 114
head_of out is = ⊎_elim (λ none. ap (λ (o : Output). head_or o.text) none)
    (⊎_elim (λ one. ap (λ (o : Output). head_or o.text) one) (λ two. ap (λ (o : Output). head_or o.text) two)) is

pub head_of_front : (count : ℕ) (text : List ℕ) → head_or text ≡ 114 → head_or (take count text) ≡ 114
head_of_front count [] is = front count
  where
    front : (n : ℕ) → head_or (take n []) ≡ 114
    front zero = refl
    front (suc n) = refl
head_of_front zero (x ∷ text) is = refl
head_of_front (suc n) (x ∷ text) is = is

-- commands that were answered with this on an empty output
module _ (terms : Terms) (text : List ℕ) (stops : List Account) (ending : Ending)
    (replied : AreAnswered terms (Some two_pops) (Some [], Some text) ([], stops) ending) where
  leads : Leads terms start replied.commands replied.out replied.after
  leads = subst (λ s. Leads terms s replied.commands replied.out replied.after)
      (at_start replied.version replied.commands replied.first) replied.allowed

  of_some : (replied.out ≡ says []) ⊎ (replied.out ≡ says one_refusal) ⊎ (replied.out ≡ says two_refusals)
  of_some = some_reply terms replied.commands (first_ones replied.version replied.commands replied.first) replied.out
      replied.after leads

  -- where there was no write fault, the text is that of whole replies
  pub whole_length : ending ≢ WriteFault → (length text ≡ 0) ⊎ (length text ≡ 11) ⊎ (length text ≡ 22)
  whole_length sound =
      let is : text ≡ replied.out.text = replied.whole sound in
      reply_length replied.out of_some (length text) (ap (λ (t : List ℕ). length t) (sym is))

  -- and where the script was read to its ending, that of both
  pub read_length : IsReadOut ending → ending ≢ WriteFault → length text ≡ 22
  read_length read sound =
      let all = replied.all read in
      let is : text ≡ replied.out.text = replied.whole sound in
      let two = two_replies terms replied.out replied.after
      (subst (λ cs. Leads terms start cs replied.out replied.after)
      (all_ones replied.version replied.commands all.0 all.1)
      leads) in
      ap (λ (t : List ℕ). length t) is ∙ ap (λ (o : Output). length o.text) two

  -- a front begins as a reply does
  pub front_head : head_or text ≡ 114
  front_head =
      let is : text ≡ take replied.front.count replied.out.text = replied.front.appended in
      ap head_or is ∙ head_of_front replied.front.count replied.out.text (head_of replied.out of_some)

  -- no search is told of
  pub none_told : stops ≡ []
  none_told = replied.told ∙ ⊎_elim (λ none. ap (λ (o : Output). o.stops) none)
      (⊎_elim (λ one. ap (λ (o : Output). o.stops) one) (λ two. ap (λ (o : Output). o.stops) two)) of_some

pub too_short : {A : Type 0} (n : ℕ) → (n ≡ 0) ⊎ (n ≡ 11) ⊎ (n ≡ 22) → n ≢ 0 → n ≢ 11 → n ≢ 22 → A
too_short n is a b c = absurd (⊎_elim a (⊎_elim b c) is)
