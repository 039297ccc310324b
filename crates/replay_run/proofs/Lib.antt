mod Reports
mod InPlay
mod Says
mod StepOrEnd
mod Exactly
mod FirstStop
mod ShownPerformers
