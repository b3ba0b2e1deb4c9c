-- Commands one after another.
use Rattle.std.proofs.Common.{◌≡◌, List, [], ◌∷◌, ◌++◌, ℕ, ◌+◌, ◌<◌, take, get_or, length, refl, sym, ap, subst, ◌∙◌, add-one}
use Rattle.std.proofs.Math.Seq.{take-suc}
use Rattle.std.proofs.lemmas.List.{map-append}
use Rattle.tera.specs.Registry.{Registry}
use Rattle.tera_run_script.specs.declared.command.Command.{Command}
use Rattle.tera_run_script.specs.declared.reply.Reply.{Reply}
use Rattle.tera_run_script.specs.Act.{Act, act_of, acts_of}
use Rattle.tera_run_script.specs.Reply.{Replied, reply_seen, replies_seen}
use Rattle.tera_run_script.specs.Session.{Session, Answers, Replies, fresh}

-- one command more
pub Replies-snoc : (now last next : Session) (acts : List Act) (replies : List Replied) (act : Act) (reply : Replied) → Replies now acts replies last → Answers last act reply next → Replies now (acts ++ act ∷ []) (replies ++ reply ∷ []) next
Replies-snoc now last next [] [] act reply h more = (next, subst (λ s. Answers s act reply next) (sym h) more, refl)
Replies-snoc now last next [] (r ∷ replies) act reply h more = absurd h
Replies-snoc now last next (a ∷ acts) [] act reply h more = absurd h
Replies-snoc now last next (a ∷ acts) (r ∷ replies) act reply h more = (h.0, h.1, Replies-snoc h.0 last next acts replies act reply h.2 more)

acts_of-more : (commands : List Command) (count : ℕ) (d : Command) → count < length commands → acts_of (take (count + 1) commands) ≡ acts_of (take count commands) ++ act_of (get_or commands count d) ∷ []
acts_of-more commands count d h =
    ap (λ n. acts_of (take n commands)) (add-one count) ∙ ap acts_of (take-suc commands count d h)
    ∙ map-append act_of (take count commands) (get_or commands count d ∷ [])

-- the first so many commands were answered, and left this session
pub record Answered (registry : Registry) (commands : List Command) (count : ℕ) (replies : List Reply) (left : Session) : Type 0 where
  pub replied : Replies (fresh registry) (acts_of (take count commands)) (replies_seen replies) left

pub answered_none : (registry : Registry) (commands : List Command) → Answered registry commands 0 [] (fresh registry)
answered_none registry commands = record { replied = refl }

pub answered_more : (registry : Registry) (commands : List Command) (count : ℕ) (d : Command) (replies more : List Reply) (reply : Reply) (left next : Session) → Answered registry commands count replies left → count < length commands → more ≡ replies ++ reply ∷ [] → Answers left (act_of (get_or commands count d)) (reply_seen reply) next → Answered registry commands (count + 1) more next
answered_more registry commands count d replies more reply left next a h e answers =
    let act = act_of (get_or commands count d) in
    let seen : replies_seen more ≡ replies_seen replies ++ reply_seen reply ∷ [] = ap replies_seen e ∙ map-append reply_seen replies (reply ∷ []) in
    let acts = acts_of-more commands count d h in
    record { replied = rw (acts, seen) (Replies-snoc (fresh registry) left next (acts_of (take count commands)) (replies_seen replies) act (reply_seen reply) a.replied answers) }
