-- The checks of commands, taken apart.
use Rattle.std.specs.Prelude.{⊤}
use Rattle.std.proofs.Common.{◌≡◌, refl, sym, ap, ◌∙◌, ℕ, ℤ, List, Result, Ok, Err, IfOk, IfErr}
use Rattle.ld_base.specs.declared.numbers.PersonNo.{PersonNo}
use Rattle.ld_model.specs.declared.unit.Unit.{Unit}
use Rattle.ld_lines.specs.declared.command.RunCommand.{RunCommand}
use Rattle.ld_lines.specs.declared.command.RunCommand.TheVariants.{Drop}
use Rattle.ld_state.specs.RunState.{RunState}
use Rattle.ld_admission.specs.AdmittedView.{Answers, AnswersAsked, AnswersInMemory, IsPossible, admitted_of}
use Rattle.ld_admission.specs.CheckStages.{Rest, acting, dropping, in_running}
use Rattle.ld_admission.specs.Checks.{admitted, in_time, the_person, the_role}
use Rattle.ld_admission.specs.Commands.{drops}
use Rattle.ld_admission.specs.RefusalView.{RefusesWith, answer_of, refusal_of}
use Rattle.ld_admission.specs.Refusals.{Refusal, ◌unless_refused◌ as ◌>>=◌, ◌>>◌}
use Rattle.ld_admission.specs.declared.admitted.Admitted.{Admitted as AdmittedOf}
use Rattle.ld_admission.specs.declared.refusal.Refusal.{Refusal as RefusalOf}

-- The checks of a role that is taken.
pub admitted_drop : (unit : Unit) (s : RunState) (moment : ℤ) (name role : List ℕ)
    → admitted unit s moment (Drop name role) ≡ (in_time s moment >> (the_person s name >>= λ p. the_role unit role >>= λ r. dropping unit s r p (Ok (drops p r))))
unfolding admitted dropping
admitted_drop unit s moment name role = refl

-- What they come to, once moment, person and role are looked at.
pub drop_is : (unit : Unit) (s : RunState) (moment : ℤ) (name role : List ℕ) (p r : ℕ) (answer : Rest)
    → Ok tt ≡ in_time s moment → Ok p ≡ the_person s name → Ok r ≡ the_role unit role → dropping unit s r p (Ok (drops p r)) ≡ answer
    → answer ≡ admitted unit s moment (Drop name role)
drop_is unit s moment name role p r answer time person found is =
    sym (admitted_drop unit s moment name role
    ∙ ap (λ (t : Result ⊤ Refusal). t >> (the_person s name >>= λ q. the_role unit role >>= λ n. dropping unit s n q (Ok (drops q n)))) (sym time)
    ∙ ap (λ (o : Result ℕ Refusal). o >>= λ q. the_role unit role >>= λ n. dropping unit s n q (Ok (drops q n))) (sym person)
    ∙ ap (λ (o : Result ℕ Refusal). o >>= λ n. dropping unit s n p (Ok (drops p n))) (sym found)
    ∙ is)

-- Where the moment is in time and the run is started, the person is what is left to find.
pub person_passes : (s : RunState) (moment : ℤ) (name : List ℕ) (found : Result PersonNo RefusalOf)
    → ((next : Rest) → in_running s moment next ≡ next) → answer_of (λ (person : PersonNo). person.0) found ≡ the_person s name
    → IfOk found (λ person. (next : ℕ → Rest) → acting s moment name next ≡ next person.0)
person_passes s moment name (Ok person) passes is =
    λ next. passes (the_person s name >>= next) ∙ ap (λ (r : Result ℕ _). r >>= next) (sym is)
person_passes s moment name (Err refusal) passes is = tt

pub person_refused : (s : RunState) (moment : ℤ) (name : List ℕ) (found : Result PersonNo RefusalOf)
    → ((next : Rest) → in_running s moment next ≡ next) → answer_of (λ (person : PersonNo). person.0) found ≡ the_person s name
    → IfErr found (λ refusal. (next : ℕ → Rest) → acting s moment name next ≡ Err (refusal_of refusal))
person_refused s moment name (Ok person) passes is = tt
person_refused s moment name (Err refusal) passes is =
    λ next. passes (the_person s name >>= next) ∙ ap (λ (r : Result ℕ _). r >>= next) (sym is)

-- ---- what an answer of the program tells, by what it means

module _ (unit : Unit) (s : RunState) (moment : ℤ) (asked : RunCommand) where
  -- Memory could run out, but it did not.
  pub in_memory : (answer : Result AdmittedOf RefusalOf) → Answers unit s moment asked answer → AnswersInMemory unit s moment asked answer
  in_memory (Ok done) (same, may) = (sym same, may)
  in_memory (Err refusal) (same, may) = λ other. sym same

  -- It can run out for no other command.
  pub by_checks : (answer : Result AdmittedOf RefusalOf) → Answers unit s moment asked answer → AnswersAsked unit s moment asked answer
  by_checks answer answers = (in_memory answer answers, λ _. answers.0)

  pub once_admitted : (answer : Result AdmittedOf RefusalOf) → AnswersInMemory unit s moment asked answer → IfOk answer (λ done. admitted unit s moment asked ≡ Ok (admitted_of done))
  once_admitted (Ok done) answers = answers.0
  once_admitted (Err refusal) answers = tt

  pub once_possible : (answer : Result AdmittedOf RefusalOf) → AnswersInMemory unit s moment asked answer → IfOk answer (λ done. IsPossible unit s (admitted_of done))
  once_possible (Ok done) answers = answers.1
  once_possible (Err refusal) answers = tt

  pub once_refused : (answer : Result AdmittedOf RefusalOf) → AnswersInMemory unit s moment asked answer → IfErr answer (RefusesWith (admitted unit s moment asked))
  once_refused (Ok done) answers = tt
  once_refused (Err refusal) answers = answers
