-- The rows of a status, as whoever shows it has them.
pub use Rattle.desk_steps.specs.gate_core.declared.board.ClientRow.{ClientRow}
pub use Rattle.desk_steps.specs.gate_core.declared.board.PortRow.{PortRow}
pub use Rattle.desk_steps.specs.gate_core.soup_session.declared.port_state.PortState.{PortState}
pub use Rattle.desk_steps.specs.gate_core.soup_session.declared.port_state.PortState.TheVariants.{Down, LoggingIn, Up}
pub use Rattle.desk_steps.specs.gate_core.soup_session.declared.port_state.PortState.TheVariants.{Ended, Faulted}
pub use Rattle.desk_steps.specs.gate_core.soup_session.States.{is_up}
