pub mod Supervisor
